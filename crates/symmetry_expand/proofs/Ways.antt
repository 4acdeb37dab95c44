-- Which measured angle a direction of a turn has the intensity of.
use Rattle.std.proofs.Common.{ℕ, suc, ◌+◌, ◌-◌, ◌*◌, ◌<◌, ◌≤◌, ◌≡◌, List, length, slice_index_or, arith, ap, sym, ◌∙◌}
use Rattle.std.proofs.Math.Nat.{mul-le-mul_left, le_of_mul-le-mul_left}
use Rattle.fx_base.specs.Fraction.{Fraction, ◌≤ᶠ◌, ◌<ᶠ◌, ◌≈ᶠ◌, whole}
use Rattle.fx_base.specs.Interval.{Interval}
use Rattle.fx_base.specs.Units.{millionths}
use Rattle.fx_base.proofs.Order.{eq_refl_f, eq_sym_f, eq_trans_f}
use Rattle.photo_table.specs.Table.{Table, IsTable, plane, gamma, last_gamma, value, end_at}
use Rattle.photo_table.proofs.Between.{IsOn}
use Rattle.photo_table.proofs.Sheet.{across}
use Rattle.photo_table.proofs.Tables.{plane_at, plane_piece, end_below, end_above, end_straight, stands}
use Rattle.photo_table.proofs.Tables.Stands.{under, over, inside}
use Rattle.symmetry_expand.specs.AllRound.{round_trip}
use Rattle.symmetry_expand.specs.Steps.{last_place, first_of, last_of, there_and_back, zigzag, source, start_of, GoesRound}
use Rattle.symmetry_expand.proofs.Planes.{RiseOnce, at_most_last, at_least_first}
use Rattle.symmetry_expand.proofs.Zigzag.{place_of, zig_there, zig_back, source_there, source_back}
use Rattle.symmetry_expand.proofs.Zigzag.Place.{there, back}
use Rattle.symmetry_expand.proofs.Mirrors.{IsMoved, IsMirrored, between_moved, between_mirrored}
use Rattle.symmetry_expand.proofs.Turns.{trip_plane, trip_value, trip_gammas, trip_is_table}

-- two tables of the same gammas have the same end at x and at y: on piece i of the one and piece k of the other, in the same order of
-- planes or the other way round
pub record SameAcross (end : Interval → Fraction) (t m : Table) (x y : Fraction) : Type 0 where
  pub same : (g : Fraction) → end_at end t x g ≈ᶠ end_at end m y g

plane_of : (m : Table) → IsTable m → (r : ℕ) → r < length m.planes → plane m r ≡ slice_index_or m.planes r 0
plane_of m is r p =
    let e : 0 * length m.planes + r ≡ r = omega arith in
    let f = rw e at (plane_at m 0 r p) in omega arith

same_outside : (end : Interval → Fraction) (t m : Table) → t.gammas ≡ m.gammas → (x y g : Fraction) → g <ᶠ millionths (gamma m 0) → end_at end t x g ≈ᶠ end_at end m y g
same_outside end t m e x y g h = rw (end_below end m y g h, end_below end t x g (rw e h)) (eq_refl_f (whole 0))

same_beyond : (end : Interval → Fraction) (t m : Table) → t.gammas ≡ m.gammas → (x y g : Fraction) → millionths (last_gamma m) <ᶠ g → end_at end t x g ≈ᶠ end_at end m y g
same_beyond end t m e x y g h = rw (end_above end m y g h, end_above end t x g (rw e h)) (eq_refl_f (whole 0))

pub same_moved : (end : Interval → Fraction) (t m : Table) → IsTable t → IsTable m → t.gammas ≡ m.gammas → (i r a b : ℕ) (x y : Fraction)
    → plane t i + a ≡ plane m r + b → plane t (suc i) + a ≡ plane m (suc r) + b
    → ((j : ℕ) → j < length m.gammas → value t i j ≡ value m r j) → ((j : ℕ) → j < length m.gammas → value t (suc i) j ≡ value m (suc r) j)
    → IsOn (plane t i) (plane t (suc i)) x → IsOn (plane m r) (plane m (suc r)) y → IsMoved x y a b → SameAcross end t m x y
unfolding across
same_moved end t m it im e i r a b x y left right values next on_x on_y moved = record {
  same = λ g. elim (stands m im g) [
    | under u ↦ same_outside end t m e x y g u
    | over o ↦ same_beyond end t m e x y g o
    | inside p ↦
        let j = p.i in
        let w = p.within in
        let in_t : suc j < length t.gammas = rw e w in
        let near = ap (λ (gs : List ℕ). slice_index_or gs j 0) e in
        let far = ap (λ (gs : List ℕ). slice_index_or gs (suc j) 0) e in
        let on_t : IsOn (gamma t j) (gamma t (suc j)) g = rw (near, far) p.on in
        let seen = (end_straight end t it i j in_t).value x g on_x on_t in
        let seen' = rw (values j (omega arith), values (suc j) w, next j (omega arith), next (suc j) w, near, far) at seen in
        eq_trans_f seen'
        (eq_trans_f (between_moved (plane t i) (plane t (suc i)) (plane m r) (plane m (suc r)) a b x y _ _ left right moved)
        (eq_sym_f ((end_straight end m im r j w).value y g on_y p.on)))
  ];
}

pub same_mirrored : (end : Interval → Fraction) (t m : Table) → IsTable t → IsTable m → t.gammas ≡ m.gammas → (i r s b : ℕ) (x y : Fraction)
    → plane t i + b + plane m (suc r) ≡ s → plane t (suc i) + b + plane m r ≡ s
    → ((j : ℕ) → j < length m.gammas → value t i j ≡ value m (suc r) j) → ((j : ℕ) → j < length m.gammas → value t (suc i) j ≡ value m r j)
    → IsOn (plane t i) (plane t (suc i)) x → IsOn (plane m r) (plane m (suc r)) y → IsMirrored y x s b → SameAcross end t m x y
unfolding across
same_mirrored end t m it im e i r s b x y left right values next on_x on_y mirrored = record {
  same = λ g. elim (stands m im g) [
    | under u ↦ same_outside end t m e x y g u
    | over o ↦ same_beyond end t m e x y g o
    | inside p ↦
        let j = p.i in
        let w = p.within in
        let in_t : suc j < length t.gammas = rw e w in
        let near = ap (λ (gs : List ℕ). slice_index_or gs j 0) e in
        let far = ap (λ (gs : List ℕ). slice_index_or gs (suc j) 0) e in
        let on_t : IsOn (gamma t j) (gamma t (suc j)) g = rw (near, far) p.on in
        let seen = (end_straight end t it i j in_t).value x g on_x on_t in
        let seen' = rw (values j (omega arith), values (suc j) w, next j (omega arith), next (suc j) w, near, far) at seen in
        eq_trans_f seen'
        (eq_trans_f (between_mirrored (plane t i) (plane t (suc i)) (plane m r) (plane m (suc r)) s b x y _ _ left right mirrored)
        (eq_sym_f ((end_straight end m im r j w).value y g on_y p.on)))
  ];
}

-- ---- x and so much more lies there or back between the first plane and the last, w being the way there and back

pub data Way (end : Interval → Fraction) (t m : Table) (x : Fraction) (base w first last : ℕ) : Type 0 where
  on_way : (q : ℕ) → (w * q + first) * x.den ≤ x.num * 1000000 + base * x.den → x.num * 1000000 + base * x.den ≤ (w * q + last) * x.den
      → ((y : Fraction) → IsMoved x y base (w * q) → SameAcross end t m x y) → Way end t m x base w first last
  on_way_back : (q : ℕ) → (w * q + last) * x.den ≤ x.num * 1000000 + base * x.den → x.num * 1000000 + base * x.den ≤ (w * q + (2 * last - first)) * x.den
      → ((y : Fraction) → IsMirrored y x (w * q + 2 * last) base → SameAcross end t m x y) → Way end t m x base w first last

moved_low : (a a' s s' X x Y y : ℕ) → 0 < x → a + s ≡ a' + s' → (X + s * x) * y ≡ (Y + s' * y) * x → a * x ≤ X → a' * y ≤ Y
moved_low a a' s s' X x Y y p e h g = le_of_mul-le-mul_left {k = x} (omega (arith, h, mul-le-mul_left y g, ap (λ (z : ℕ). z * (x * y)) e)) p

moved_high : (a a' s s' X x Y y : ℕ) → 0 < x → a + s ≡ a' + s' → (X + s * x) * y ≡ (Y + s' * y) * x → X ≤ a * x → Y ≤ a' * y
moved_high a a' s s' X x Y y p e h g = le_of_mul-le-mul_left {k = x} (omega (arith, h, mul-le-mul_left y g, ap (λ (z : ℕ). z * (x * y)) e)) p

on_moved : (a b a' b' s s' : ℕ) (x y : Fraction) → a' < b' → a + s ≡ a' + s' → b + s ≡ b' + s' → IsMoved x y s s' → IsOn a b x → IsOn a' b' y
unfolding millionths
on_moved a b a' b' s s' x y rise e f h on = record {
  rise = rise;
  low = record { cross = moved_low a a' s s' (x.num * 1000000) x.den (y.num * 1000000) y.den x.positive e h.cross on.low.cross };
  high = record { cross = moved_high b b' s s' (x.num * 1000000) x.den (y.num * 1000000) y.den x.positive f h.cross on.high.cross };
}

mirrored_high : (a b' s t X x Y y : ℕ) → 0 < x → a + t + b' ≡ s → Y * x + (X + t * x) * y ≡ s * (y * x) → a * x ≤ X → Y ≤ b' * y
mirrored_high a b' s t X x Y y p e h g = le_of_mul-le-mul_left {k = x} (omega (arith, h, mul-le-mul_left y g, ap (λ (z : ℕ). z * (x * y)) e)) p

mirrored_low : (b a' s t X x Y y : ℕ) → 0 < x → b + t + a' ≡ s → Y * x + (X + t * x) * y ≡ s * (y * x) → X ≤ b * x → a' * y ≤ Y
mirrored_low b a' s t X x Y y p e h g = le_of_mul-le-mul_left {k = x} (omega (arith, h, mul-le-mul_left y g, ap (λ (z : ℕ). z * (x * y)) e)) p

on_mirrored : (a b a' b' s t : ℕ) (x y : Fraction) → a' < b' → a + t + b' ≡ s → b + t + a' ≡ s → IsMirrored y x s t → IsOn a b x → IsOn a' b' y
unfolding millionths
on_mirrored a b a' b' s t x y rise e f h on = record {
  rise = rise;
  low = record { cross = mirrored_low b a' s t (x.num * 1000000) x.den (y.num * 1000000) y.den x.positive f h.cross on.high.cross };
  high = record { cross = mirrored_high a b' s t (x.num * 1000000) x.den (y.num * 1000000) y.den x.positive e h.cross on.low.cross };
}

-- a knot at most x, so at most x and so much more
more_low : (a b c x X : ℕ) → a ≤ b + c → b * x ≤ X → a * x ≤ X + c * x
more_low a b c x X e h = omega (arith, mul-le-mul_left x e, h)

more_high : (a b c x X : ℕ) → b + c ≤ a → X ≤ b * x → X + c * x ≤ a * x
more_high a b c x X e h = omega (arith, mul-le-mul_left x e, h)

pub way_of : (end : Interval → Fraction) (m : Table) (times base : ℕ) → IsTable m → RiseOnce m.planes → GoesRound m.planes times base → (x : Fraction)
    → millionths (plane (round_trip times base m) 0) ≤ᶠ x → Way end (round_trip times base m) m x base (there_and_back m.planes) (first_of m.planes) (last_of m.planes)
unfolding millionths
way_of end m times base im rise h x low =
    let t = round_trip times base m in
    let it = trip_is_table m times base im rise h in
    let e = trip_gammas m times base in
    let ps = m.planes in
    let n = last_place ps in
    let w = there_and_back ps in
    let two = h.two in
    let p = plane_piece t it x low in
    let i = p.i in
    let at = trip_plane m times base rise h i in
    let at' = trip_plane m times base rise h (suc i) in
    let v = λ (j : ℕ) (q : j < length m.gammas). trip_value m times base im h i j q in
    let v' = λ (j : ℕ) (q : j < length m.gammas). trip_value m times base im h (suc i) j q in
    elim (place_of ps (start_of ps base + i) two) [
      | there q r l f ↦
          let f' : start_of ps base + suc i ≡ q * (2 * n) + (r + 1) = omega arith in
          let a = zig_there ps q r (omega arith) two in
          let b = zig_there ps q (r + 1) (omega arith) two in
          let left : plane t i + base ≡ w * q + slice_index_or ps r 0 = at ∙ ap (zigzag ps) f ∙ a in
          let right : plane t (suc i) + base ≡ w * q + slice_index_or ps (r + 1) 0 = at' ∙ ap (zigzag ps) f' ∙ b in
          let left_m = plane_of m im r (omega arith) in
          let right_m = plane_of m im (suc r) (omega arith) in
          let s : suc r ≡ r + 1 = omega arith in
          let sp = ap (λ (k : ℕ). slice_index_or ps k 0) s in
          let least = at_least_first ps rise r (omega arith) in
          let most = at_most_last ps rise (r + 1) (omega arith) in
          let rises = rise.rise r (r + 1) (omega arith) (omega arith) in
          on_way q
          (more_low (w * q + first_of ps) (plane t i) base x.den (x.num * 1000000) (omega arith) p.on.low.cross)
          (more_high (w * q + last_of ps) (plane t (suc i)) base x.den (x.num * 1000000) (omega arith) p.on.high.cross)
          (λ y moved.
          let le : plane t i + base ≡ plane m r + w * q = omega arith in
          let ri : plane t (suc i) + base ≡ plane m (suc r) + w * q = omega (arith, right, right_m, sp) in
          same_moved end t m it im e i r base (w * q) x y le ri
          (λ j k. v j k ∙ ap (λ (z : ℕ). value m z j) (ap (source n) f ∙ source_there n q r (omega arith) (omega arith)))
          (λ j k. v' j k ∙ ap (λ (z : ℕ). value m z j) (ap (source n) f' ∙ source_there n q (r + 1) (omega arith) (omega arith) ∙ sym s))
          p.on (on_moved (plane t i) (plane t (suc i)) (plane m r) (plane m (suc r)) base (w * q) x y (omega (arith, left_m, right_m, sp, rises)) le ri moved p.on) moved)
      | back q k l f ↦
          let f0 : start_of ps base + i ≡ q * (2 * n) + (2 * n - (k + 1)) = omega arith in
          let f' : start_of ps base + suc i ≡ q * (2 * n) + (2 * n - k) = omega arith in
          let a = zig_back ps rise q (k + 1) (omega arith) two in
          let b = zig_back ps rise q k (omega arith) two in
          let left : plane t i + base ≡ w * q + (2 * last_of ps - slice_index_or ps (k + 1) 0) = at ∙ ap (zigzag ps) f0 ∙ a in
          let right : plane t (suc i) + base ≡ w * q + (2 * last_of ps - slice_index_or ps k 0) = at' ∙ ap (zigzag ps) f' ∙ b in
          let left_m = plane_of m im (suc k) (omega arith) in
          let right_m = plane_of m im k (omega arith) in
          let s : suc k ≡ k + 1 = omega arith in
          let sp = ap (λ (z : ℕ). slice_index_or ps z 0) s in
          let least = at_least_first ps rise k (omega arith) in
          let most = at_most_last ps rise (k + 1) (omega arith) in
          let rises = rise.rise k (k + 1) (omega arith) (omega arith) in
          on_way_back q
          (more_low (w * q + last_of ps) (plane t i) base x.den (x.num * 1000000) (omega arith) p.on.low.cross)
          (more_high (w * q + (2 * last_of ps - first_of ps)) (plane t (suc i)) base x.den (x.num * 1000000) (omega arith) p.on.high.cross)
          (λ y mirrored.
          let le : plane t i + base + plane m (suc k) ≡ w * q + 2 * last_of ps = omega (arith, left, left_m, sp, most) in
          let ri : plane t (suc i) + base + plane m k ≡ w * q + 2 * last_of ps = omega (arith, right, right_m, most, rises) in
          same_mirrored end t m it im e i k (w * q + 2 * last_of ps) base x y le ri
          (λ j z. v j z ∙ ap (λ (z : ℕ). value m z j) (ap (source n) f0 ∙ source_back n q (k + 1) (omega arith) (omega arith) ∙ sym s))
          (λ j z. v' j z ∙ ap (λ (z : ℕ). value m z j) (ap (source n) f' ∙ source_back n q k (omega arith) (omega arith)))
          p.on (on_mirrored (plane t i) (plane t (suc i)) (plane m k) (plane m (suc k)) (w * q + 2 * last_of ps) base x y (omega (arith, left_m, right_m, sp, rises)) le ri mirrored p.on) mirrored)
    ]
