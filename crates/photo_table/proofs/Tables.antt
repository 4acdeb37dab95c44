-- The interpolated end of a table: straight on every pair of pieces, the same a turn later, 0 outside the gammas.
use Rattle.std.proofs.Common.{ℕ, zero, suc, ◌+◌, ◌-◌, ◌*◌, ◌/◌, ◌%◌, ◌<◌, ◌≤◌, ◌≡◌, inl, inr, arith, subst, refl, ap, List, length, slice_index_or, sym}
use Rattle.std.proofs.Math.Nat.{mul-le-mul_left, le_of_mul-le-mul_left, mul-pos, add-mul-div_left, add-mul-mod_self_left, lt-div-mul-add}
use Rattle.std.proofs.lemmas.Nat.{div-mul-add, mod-mul-add}
use Rattle.std.proofs.lemmas.Bool.{cases_lt}
use Rattle.fx_base.specs.Fraction.{Fraction, ◌≤ᶠ◌, ◌<ᶠ◌, ◌≈ᶠ◌, at_most, whole, ◌+ᶠ◌}
use Rattle.fx_base.specs.Interval.{Interval}
use Rattle.fx_base.specs.Units.{millionths}
use Rattle.fx_base.proofs.Order.{le_refl_f, le_trans_f, le_of_lt_f, lt_or_le_f, le_lt_trans_f, eq_refl_f, eq_sym_f, eq_trans_f, at_most_true, at_most_not, le_of_eq_f, ge_of_eq_f, zero_le_f, add_le_f}
use Rattle.fx_base.proofs.Truth.{both_of, if_false, if_true, not_first, not_second}
use Rattle.photo_table.specs.Axis.{between, along}
use Rattle.photo_table.specs.Table.{Table, IsTable, plane, gamma, last_gamma, value, planes_to, end_at}
use Rattle.photo_table.proofs.Between.{IsOn, between_eq, between_moved, between_near, at_left, at_right, millionths_le}
use Rattle.photo_table.proofs.Outward.{IsOutward}
use Rattle.photo_table.proofs.Knots.{IsRising, HasPiece, rising_le, along_is, piece_of}
use Rattle.photo_table.proofs.Sheet.{IsStraight, across}

-- ---- planes rise for ever

first_least : (t : Table) → IsTable t → (r : ℕ) → r < length t.planes → slice_index_or t.planes 0 0 ≤ slice_index_or t.planes r 0
first_least t h zero p = omega arith
first_least t h (suc r) p = let g = h.planes_rise 0 (suc r) (omega arith) p in omega arith

-- i / n is at most j / n for i at most j
quotient_le : (i j n a b r s : ℕ) → a * n + r ≡ i → b * n + s ≡ j → s < n → i ≤ j → a ≤ b
quotient_le i j n a b r s e f p h = elim (cases_lt b a) [
  | inl l ↦ let g : b + 1 ≤ a = omega arith in absurd (omega (arith, mul-le-mul_left n g))
  | inr g ↦ g
]

pub plane_rises : (t : Table) → IsTable t → (i j : ℕ) → i < j → plane t i < plane t j
unfolding plane
plane_rises t h i j p =
    let n = length t.planes in
    let some = h.some_plane in
    let in_i : i % n < n = omega arith in
    let in_j : j % n < n = omega arith in
    let at_i : i / n * n + i % n ≡ i = omega arith in
    let at_j : j / n * n + j % n ≡ j = omega arith in
    let q : i / n ≤ j / n = quotient_le i j n (i / n) (j / n) (i % n) (j % n) at_i at_j in_j (omega arith) in
    elim (cases_lt (i / n) (j / n)) [
      | inl l ↦ let a = h.one_turn (i % n) in_i in let b = first_least t h (j % n) in_j in omega arith
      | inr g ↦ let e : i / n ≡ j / n = omega arith in
          let f = ap (λ (z : ℕ). z * n) e in
          let r = h.planes_rise (i % n) (j % n) (omega (arith, f)) in_j in omega arith
    ]

pub planes_rising : (t : Table) → IsTable t → (n : ℕ) → IsRising (plane t) n
planes_rising t h n = record { rises = λ i j p q. plane_rises t h i j p }

pub gammas_rising : (t : Table) → IsTable t → IsRising (gamma t) (length t.gammas)
gammas_rising t h = record { rises = h.gammas_rise }

pub plane_le : (t : Table) → IsTable t → (i j : ℕ) → i ≤ j → plane t i ≤ plane t j
plane_le t h i j p = rising_le (plane t) (suc j) i j (planes_rising t h (suc j)) p (omega arith)

pub plane_back : (t : Table) → IsTable t → (i j : ℕ) → plane t i < plane t j → i < j
plane_back t h i j p = elim (cases_lt i j) [
  | inl l ↦ l
  | inr g ↦ let e = plane_le t h j i g in absurd (omega arith)
]

-- r planes into turn q
pub plane_at : (t : Table) (q r : ℕ) → r < length t.planes → plane t (q * length t.planes + r) ≡ slice_index_or t.planes r 0 + 360000000 * q
unfolding plane
plane_at t q r p = rw (div-mul-add q (length t.planes) r p, mod-mul-add q (length t.planes) r p) refl

pub plane_later : (t : Table) → IsTable t → (i turns : ℕ) → plane t (i + length t.planes * turns) ≡ plane t i + 360000000 * turns
unfolding plane
plane_later t h i turns = rw (add-mul-div_left i turns h.some_plane, add-mul-mod_self_left i (length t.planes) turns) (omega arith)

pub value_later : (t : Table) (i turns j : ℕ) → value t (i + length t.planes * turns) j ≡ value t i j
unfolding value
value_later t i turns j = rw (add-mul-mod_self_left i (length t.planes) turns) refl

-- the last of the planes that are looked at lies above x
beyond : (q r xn xd : ℕ) → xn < q * (360 * xd) + 360 * xd → xn * 1000000 < (r + 360000000 * suc q) * xd
beyond q r xn xd h = omega (arith, h)

pub plane_above : (t : Table) → IsTable t → (x : Fraction) → x <ᶠ millionths (plane t (length t.planes * suc (x.num / (360 * x.den))))
unfolding millionths
plane_above t h x =
    let q = x.num / (360 * x.den) in
    let e : length t.planes * suc q ≡ suc q * length t.planes + 0 = omega arith in
    let some : 0 < 360 * x.den = let p = x.positive in omega arith in
    let P : ℕ → Type 0 = λ z. x.num * 1000000 < plane t z * x.den in
    let e' : suc q * length t.planes + 0 ≡ length t.planes * suc q = omega arith in
    record {
      cross = subst P e' (rw (plane_at t (suc q) 0 h.some_plane)
          (beyond q (slice_index_or t.planes 0 0) x.num x.den (lt-div-mul-add some)));
    }

pub within_planes : (t : Table) → IsTable t → (i : ℕ) (x : Fraction) → millionths (plane t i) ≤ᶠ x → suc i < planes_to t x
unfolding millionths
within_planes t h i x low =
    let last = length t.planes * suc (x.num / (360 * x.den)) in
    let g = (le_lt_trans_f low (plane_above t h x)).cross in
    let b = plane_back t h i last (omega arith) in omega arith

-- ---- inside and outside the gammas

pub end_below : (end : Interval → Fraction) (t : Table) (x y : Fraction) → y <ᶠ millionths (gamma t 0) → end_at end t x y ≡ whole 0
unfolding end_at
end_below end t x y h = if_false _ _ _ (not_first (at_most (millionths (gamma t 0)) y) (at_most y (millionths (last_gamma t))) (at_most_not h))

pub end_above : (end : Interval → Fraction) (t : Table) (x y : Fraction) → millionths (last_gamma t) <ᶠ y → end_at end t x y ≡ whole 0
unfolding end_at
end_above end t x y h = if_false _ _ _ (not_second (at_most (millionths (gamma t 0)) y) (at_most y (millionths (last_gamma t))) (at_most_not h))

end_inside : (end : Interval → Fraction) (t : Table) (x y : Fraction) → millionths (gamma t 0) ≤ᶠ y → y ≤ᶠ millionths (last_gamma t)
    → end_at end t x y ≡ along (plane t) (planes_to t x) (λ i. along (gamma t) (length t.gammas) (λ j. end (value t i j)) y) x
unfolding end_at
end_inside end t x y low high = if_true _ _ _ (both_of (at_most (millionths (gamma t 0)) y) (at_most y (millionths (last_gamma t))) (at_most_true low) (at_most_true high))

-- ---- the law of pieces for a table

abbrev pub ends_of : (Interval → Fraction) → Table → ℕ → ℕ → Fraction
ends_of end t i j = end (value t i j)

pub end_straight : (end : Interval → Fraction) (t : Table) → IsTable t → (i j : ℕ) → suc j < length t.gammas
    → IsStraight (plane t) (gamma t) (ends_of end t) (end_at end t) i j
unfolding across
end_straight end t h i j p = record {
  value = λ x y on_x on_y.
      let n = length t.gammas in
      let r = gammas_rising t h in
      let row = λ (a : ℕ). along_is (gamma t) n (ends_of end t a) y j r p on_y in
      let low = le_trans_f (millionths_le (gamma t 0) (gamma t j) (rising_le (gamma t) n 0 j r (omega arith) (omega arith))) on_y.low in
      let high = le_trans_f on_y.high (millionths_le (gamma t (suc j)) (last_gamma t) (rising_le (gamma t) n (suc j) (n - 1) r (omega arith) (omega arith))) in
      let P : Fraction → Type 0 = λ z. z ≈ᶠ across (plane t) (gamma t) (ends_of end t) i j x y in
      subst P (sym (end_inside end t x y low high))
      (eq_trans_f
      (along_is (plane t) (planes_to t x) (λ a. along (gamma t) n (ends_of end t a) y) x i (planes_rising t h (planes_to t x)) (within_planes t h i x on_x.low) on_x)
      (between_eq (plane t i) (plane t (suc i)) x _ _ _ _ (row i) (row (suc i))));
}

-- ---- where an angle stands

pub plane_piece : (t : Table) → IsTable t → (x : Fraction) → millionths (plane t 0) ≤ᶠ x → HasPiece (plane t) (planes_to t x) x
plane_piece t h x low =
    let s = h.some_plane in
    let two : 2 ≤ planes_to t x = omega (arith, mul-pos {m = length t.planes} {n = suc (x.num / (360 * x.den))} s (omega arith)) in
    let last = length t.planes * suc (x.num / (360 * x.den)) in
    let P : ℕ → Type 0 = λ z. x ≤ᶠ millionths (plane t z) in
    let e : last ≡ suc last - 1 = omega arith in
    piece_of (plane t) (planes_to t x) x (planes_rising t h (planes_to t x)) two low (subst P e (le_of_lt_f (plane_above t h x)))

pub gamma_piece : (t : Table) → IsTable t → (y : Fraction) → millionths (gamma t 0) ≤ᶠ y → y ≤ᶠ millionths (last_gamma t) → HasPiece (gamma t) (length t.gammas) y
gamma_piece t h y low high = piece_of (gamma t) (length t.gammas) y (gammas_rising t h) h.two_gammas low high

-- y is below the gammas, on a piece of them, or above them
pub data Stands (t : Table) (y : Fraction) : Type 0 where
  under : y <ᶠ millionths (gamma t 0) → Stands t y
  over : millionths (last_gamma t) <ᶠ y → Stands t y
  inside : HasPiece (gamma t) (length t.gammas) y → Stands t y

pub stands : (t : Table) → IsTable t → (y : Fraction) → Stands t y
stands t h y = elim (lt_or_le_f y (millionths (gamma t 0))) [
  | inl u ↦ under u
  | inr low ↦ elim (lt_or_le_f (millionths (last_gamma t)) y) [
    | inl o ↦ over o
    | inr high ↦ inside (gamma_piece t h y low high)
  ]
]

-- ---- the same a number of turns later

across_moved : (end : Interval → Fraction) (t : Table) → IsTable t → (turns i j : ℕ) (x z y : Fraction) → z ≈ᶠ (x +ᶠ whole (360 * turns))
    → across (plane t) (gamma t) (ends_of end t) (i + length t.planes * turns) j z y ≈ᶠ across (plane t) (gamma t) (ends_of end t) i j x y
unfolding across
across_moved end t h turns i j x z y e =
    let n = length t.planes in
    let a = plane_later t h i turns in
    let b = plane_later t h (suc i) turns in
    let s : suc (i + n * turns) ≡ suc i + n * turns = omega arith in
    let v = λ (c d : ℕ). value_later t c turns d in
    rw (s, a, b, v i j, v i (suc j), v (suc i) j, v (suc i) (suc j))
    (between_moved (plane t i) (plane t (suc i)) turns x z _ _ e)

moved_on : (t : Table) → IsTable t → (turns i : ℕ) (x z : Fraction) → z ≈ᶠ (x +ᶠ whole (360 * turns)) → IsOn (plane t i) (plane t (suc i)) x
    → IsOn (plane t (i + length t.planes * turns)) (plane t (suc (i + length t.planes * turns))) z
unfolding millionths ◌+ᶠ◌ whole
moved_on t h turns i x z e on =
    let n = length t.planes in
    let s : suc (i + n * turns) ≡ suc i + n * turns = omega arith in
    record {
      rise = plane_rises t h (i + n * turns) (suc (i + n * turns)) (omega arith);
      low = record { cross = rw (plane_later t h i turns) (shifted_low (plane t i) (360000000 * turns) x.num x.den z.num z.den x.positive (omega (arith, e.cross)) (omega (arith, on.low.cross))) };
      high = record { cross = rw (s, plane_later t h (suc i) turns) (shifted_high (plane t (suc i)) (360000000 * turns) x.num x.den z.num z.den x.positive (omega (arith, e.cross)) (omega (arith, on.high.cross))) };
    }
  where
    shifted_low : (a move xn xd zn zd : ℕ) → 0 < xd → (zn * 1000000) * xd ≡ (xn * 1000000 + move * xd) * zd → a * xd ≤ xn * 1000000 → (a + move) * zd ≤ zn * 1000000
    shifted_low a move xn xd zn zd p e g = le_of_mul-le-mul_left {k = xd} (omega (arith, e, mul-le-mul_left zd g)) p

    shifted_high : (a move xn xd zn zd : ℕ) → 0 < xd → (zn * 1000000) * xd ≡ (xn * 1000000 + move * xd) * zd → xn * 1000000 ≤ a * xd → zn * 1000000 ≤ (a + move) * zd
    shifted_high a move xn xd zn zd p e g = le_of_mul-le-mul_left {k = xd} (omega (arith, e, mul-le-mul_left zd g)) p

pub end_moved : (end : Interval → Fraction) (t : Table) → IsTable t → (turns : ℕ) (x z y : Fraction) → millionths (plane t 0) ≤ᶠ x → z ≈ᶠ (x +ᶠ whole (360 * turns))
    → end_at end t z y ≈ᶠ end_at end t x y
end_moved end t h turns x z y low e = elim (stands t h y) [
  | under u ↦ rw (end_below end t x y u, end_below end t z y u) (eq_refl_f (whole 0))
  | over o ↦ rw (end_above end t x y o, end_above end t z y o) (eq_refl_f (whole 0))
  | inside g ↦
      let p = plane_piece t h x low in
      let i = p.i in
      eq_trans_f ((end_straight end t h (i + length t.planes * turns) g.i g.within).value z y (moved_on t h turns i x z e p.on) g.on)
      (eq_trans_f (across_moved end t h turns i g.i x z y e)
      (eq_sym_f ((end_straight end t h i g.i g.within).value x y p.on g.on)))
]

-- ---- bounds on the values

between_within : (pick : Fraction → Fraction → Fraction) (R : Fraction → Fraction → Type 0) → IsOutward pick R → (a b : ℕ) (m x u v : Fraction)
    → IsOn a b x → R m u → R m v → R m (between x a u b v)
between_within pick R o a b m x u v on g k =
    let r = on.rise in
    let first : IsOn a b (millionths a) = record { rise = on.rise; low = le_refl_f (millionths a); high = millionths_le a b (omega arith) } in
    let second : IsOn a b (millionths b) = record { rise = on.rise; low = millionths_le a b (omega arith); high = le_refl_f (millionths b) } in
    o.line a b u v m (millionths a) x (millionths b) first on second on.low on.high
    (o.trans g (o.same (eq_sym_f (at_left a b (millionths a) u v first (le_refl_f (millionths a))))))
    (o.trans k (o.same (eq_sym_f (at_right a b (millionths b) u v second (le_refl_f (millionths b))))))

-- a bound on every value of the table and on 0 is one everywhere
pub end_within : (pick : Fraction → Fraction → Fraction) (R : Fraction → Fraction → Type 0) → IsOutward pick R → (end : Interval → Fraction) (t : Table) → IsTable t
    → (m x y : Fraction) → ((i j : ℕ) → R m (ends_of end t i j)) → R m (whole 0) → millionths (plane t 0) ≤ᶠ x → R m (end_at end t x y)
unfolding across
end_within pick R o end t h m x y values none low = elim (stands t h y) [
  | under u ↦ rw (end_below end t x y u) none
  | over a ↦ rw (end_above end t x y a) none
  | inside g ↦
      let p = plane_piece t h x low in
      let row = λ (a : ℕ). between_within pick R o (gamma t g.i) (gamma t (suc g.i)) m y (ends_of end t a g.i) (ends_of end t a (suc g.i)) g.on (values a g.i) (values a (suc g.i)) in
      o.trans (between_within pick R o (plane t p.i) (plane t (suc p.i)) m x _ _ p.on (row p.i) (row (suc p.i)))
      (o.same (eq_sym_f ((end_straight end t h p.i g.i g.within).value x y p.on g.on)))
]

-- ---- close tables

pub record IsNear (s t : Table) (end other : Interval → Fraction) (e : Fraction) : Type 0 where
  pub planes : s.planes ≡ t.planes
  pub gammas : s.gammas ≡ t.gammas
  pub values : (i j : ℕ) → ends_of end s i j ≤ᶠ (ends_of other t i j +ᶠ e)

plane_same : (s t : Table) → s.planes ≡ t.planes → (i : ℕ) → plane s i ≡ plane t i
unfolding plane
plane_same s t e i = ap (λ (ps : List ℕ). slice_index_or ps (i % length ps) 0 + 360000000 * (i / length ps)) e

gamma_same : (s t : Table) → s.gammas ≡ t.gammas → (j : ℕ) → gamma s j ≡ gamma t j
gamma_same s t e j = ap (λ (gs : List ℕ). slice_index_or gs j 0) e

-- a table with values at most e above those of another is at most e above it everywhere
pub end_near : (s t : Table) (end other : Interval → Fraction) (e : Fraction) → IsTable s → IsTable t → IsNear s t end other e
    → (x y : Fraction) → millionths (plane s 0) ≤ᶠ x → end_at end s x y ≤ᶠ (end_at other t x y +ᶠ e)
unfolding across
end_near s t end other e hs ht near x y low = elim (stands s hs y) [
  | under u ↦ rw (end_below end s x y u) (zero_le_f (end_at other t x y +ᶠ e))
  | over a ↦ rw (end_above end s x y a) (zero_le_f (end_at other t x y +ᶠ e))
  | inside g ↦
      let p = plane_piece s hs x low in
      let i = p.i in
      let j = g.i in
      let a = plane_same s t near.planes i in
      let b = plane_same s t near.planes (suc i) in
      let c = gamma_same s t near.gammas j in
      let d = gamma_same s t near.gammas (suc j) in
      let on_x : IsOn (plane t i) (plane t (suc i)) x = rw (a, b) at p.on in
      let on_y : IsOn (gamma t j) (gamma t (suc j)) y = rw (c, d) at g.on in
      let within : suc j < length t.gammas = let q = g.within in omega (arith, ap (λ (gs : List ℕ). length gs) near.gammas) in
      let row = λ (k : ℕ). between_near (gamma t j) (gamma t (suc j)) y (ends_of end s k j) (ends_of end s k (suc j)) (ends_of other t k j) (ends_of other t k (suc j)) e on_y (near.values k j) (near.values k (suc j)) in
      let seen = (end_straight end s hs i j g.within).value x y p.on g.on in
      let seen' = rw (a, b, c, d) at seen in
      le_trans_f (le_of_eq_f seen')
      (le_trans_f (between_near (plane t i) (plane t (suc i)) x _ _ _ _ e on_x (row i) (row (suc i)))
      (add_le_f (ge_of_eq_f ((end_straight other t ht i j within).value x y on_x on_y)) (le_refl_f e)))
]

-- ---- steps of planes

pub millionths_lt : (m n : ℕ) → m < n → millionths m <ᶠ millionths n
unfolding millionths
millionths_lt m n h = record { cross = omega arith }

-- a plane is at most a turn after the one before it
pub plane_step : (t : Table) → IsTable t → (i : ℕ) → plane t (i + 1) ≤ plane t i + 360000000
plane_step t h i =
    let n = length t.planes in
    let s = h.some_plane in
    let e : i + n * 1 ≡ i + n = omega arith in
    let l = plane_le t h (i + 1) (i + n * 1) (omega arith) in
    let m = plane_later t h i 1 in omega arith
