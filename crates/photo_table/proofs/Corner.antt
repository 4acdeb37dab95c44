-- The value in a box between two planes and two gammas, from whole numbers.
use Rattle.std.proofs.Common.{ℕ, suc, ◌+◌, ◌-◌, ◌*◌, ◌/◌, ◌^◌, ◌<◌, ◌≤◌, ◌≡◌, max, arith, ap, inl, inr, refl, length}
use Rattle.std.proofs.Math.Nat.{mul-le-mul, mul-le-mul_left, mul-pos, div-mul-le_self, lt-div-mul-add}
use Rattle.std.proofs.lemmas.Bool.{cases_lt}
use Rattle.std.proofs.lemmas.Grind.{div_ceil_times}
use Rattle.std.specs.Int.{div_ceil}
use Rattle.fx_base.specs.Fraction.{Fraction, ◌≤ᶠ◌, ◌≈ᶠ◌, ratio, whole, ◌+ᶠ◌, ◌*ᶠ◌}
use Rattle.fx_base.specs.Interval.{Interval}
use Rattle.fx_base.specs.Units.{ticks, millionths}
use Rattle.fx_base.proofs.Order.{le_trans_f, le_of_eq_f, ge_of_eq_f, eq_trans_f}
use Rattle.fx_base.proofs.Ratios.{ratio_num, ratio_den, ratio_le, le_ratio}
use Rattle.fx_base.proofs.Rounding.{quotients-in_order}
use Rattle.photo_table.specs.Axis.{between, ahead, behind}
use Rattle.photo_table.specs.Table.{Table, IsTable, plane, gamma, value, end_at}
use Rattle.photo_table.specs.Kept.{Rounds}
use Rattle.photo_table.proofs.Between.{IsOn, between_eq, millionths_le}
use Rattle.photo_table.proofs.Sheet.{across}
use Rattle.photo_table.proofs.Tables.{plane_rises, end_straight}

product_at_most : (a b A B : ℕ) → a ≤ A → b ≤ B → a * b ≤ A * B
product_at_most a b A B h g = mul-le-mul {n₁ = a} {m₁ = b} {n₂ = A} {m₂ = B} h g

pub weighed_fits : (u a v b : ℕ) → u ≤ 2 ^ 90 → v ≤ 2 ^ 90 → a ≤ 2 ^ 29 → b ≤ 2 ^ 29 → u * a + v * b ≤ 2 ^ 120
weighed_fits u a v b h g k l = omega (arith, product_at_most u a (2 ^ 90) (2 ^ 29) h k, product_at_most v b (2 ^ 90) (2 ^ 29) g l)

pub weighed_small : (u a v b : ℕ) → u ≤ 687194767360000000 → v ≤ 687194767360000000 → a ≤ 180000000 → b ≤ 180000000 → u * a + v * b ≤ 2 ^ 90
weighed_small u a v b h g k l =
    omega (arith, product_at_most u a 687194767360000000 180000000 h k, product_at_most v b 687194767360000000 180000000 g l)

pub weighed_le : (u v u' v' a b : ℕ) → u ≤ u' → v ≤ v' → u * a + v * b ≤ u' * a + v' * b
weighed_le u v u' v' a b h g = omega (arith, mul-le-mul_left a h, mul-le-mul_left b g)

-- ---- a line between knots, at a whole number of millionths

cross_line : (U V E A B w : ℕ) → ((U * (A * 1000000)) * (E * (w * 1000000)) + (V * (B * 1000000)) * (E * (w * 1000000))) * (E * w)
    ≡ (U * A + V * B) * ((E * (w * 1000000)) * (E * (w * 1000000)))
cross_line U V E A B w = omega arith

cross_exact : (U V E a b x : ℕ) → a ≤ x → x ≤ b → a < b
    → ((U * (b * 1000000 - x * 1000000)) * (E * (max 1 (b - a) * 1000000)) + (V * (x * 1000000 - a * 1000000)) * (E * (max 1 (b - a) * 1000000))) * (E * (b - a))
    ≡ (U * (b - x) + V * (x - a)) * ((E * (max 1 (b - a) * 1000000)) * (E * (max 1 (b - a) * 1000000)))
cross_exact U V E a b x g h p =
    let A : b * 1000000 - x * 1000000 ≡ (b - x) * 1000000 = omega arith in
    let B : x * 1000000 - a * 1000000 ≡ (x - a) * 1000000 = omega arith in
    let w : max 1 (b - a) ≡ b - a = omega arith in
    rw (A, B, w) (cross_line U V E (b - x) (x - a) (b - a))

line_exact : (U V E a b x : ℕ) → a ≤ x → x ≤ b → a < b → 0 < E
    → between (millionths x) a (ratio U E) b (ratio V E) ≈ᶠ ratio (U * (b - x) + V * (x - a)) (E * (b - a))
unfolding between ahead behind millionths ◌+ᶠ◌ ◌*ᶠ◌
line_exact U V E a b x g h p q =
    let s : 0 < E * (b - a) = mul-pos q (omega arith) in
    record {
      cross = rw (ratio_num U E q, ratio_den U E q, ratio_num V E q, ratio_den V E q, ratio_num (U * (b - x) + V * (x - a)) (E * (b - a)) s, ratio_den (U * (b - x) + V * (x - a)) (E * (b - a)) s)
          (cross_exact U V E a b x g h p);
    }

pub line_ratio : (U V E a b x : ℕ) (u v : Fraction) → a ≤ x → x ≤ b → a < b → 0 < E → u ≈ᶠ ratio U E → v ≈ᶠ ratio V E
    → between (millionths x) a u b v ≈ᶠ ratio (U * (b - x) + V * (x - a)) (E * (b - a))
line_ratio U V E a b x u v g h p q e f =
    eq_trans_f (between_eq a b (millionths x) u v (ratio U E) (ratio V E) e f) (line_exact U V E a b x g h p q)

ticks_ratio : (n : ℕ) → ticks n ≈ᶠ ratio n 68719476736
unfolding ticks
ticks_ratio n = let s : 0 < 68719476736 = omega arith in
    record { cross = rw (ratio_num n 68719476736 s, ratio_den n 68719476736 s) refl }

-- between two gammas
pub row_value : (p q a b y N : ℕ) (u v : Fraction) → a ≤ y → y ≤ b → a < b → u ≡ ticks p → v ≡ ticks q → N ≡ p * (b - y) + q * (y - a)
    → between (millionths y) a u b v ≈ᶠ ratio N (68719476736 * (b - a))
row_value p q a b y N u v g h r e f n =
    rw (e, f, n) (line_ratio p q 68719476736 a b y (ticks p) (ticks q) g h r (omega arith) (ticks_ratio p) (ticks_ratio q))

-- between two planes too
pub corner_value : (end : Interval → Fraction) (t : Table) → IsTable t → (i j x y U V : ℕ) → suc j < length t.gammas
    → plane t i ≤ x → x ≤ plane t (suc i) → gamma t j ≤ y → y ≤ gamma t (suc j)
    → between (millionths y) (gamma t j) (end (value t i j)) (gamma t (suc j)) (end (value t i (suc j))) ≈ᶠ ratio U (68719476736 * (gamma t (suc j) - gamma t j))
    → between (millionths y) (gamma t j) (end (value t (suc i) j)) (gamma t (suc j)) (end (value t (suc i) (suc j))) ≈ᶠ ratio V (68719476736 * (gamma t (suc j) - gamma t j))
    → end_at end t (millionths x) (millionths y)
    ≈ᶠ ratio (U * (plane t (suc i) - x) + V * (x - plane t i)) (68719476736 * (gamma t (suc j) - gamma t j) * (plane t (suc i) - plane t i))
unfolding across
corner_value end t h i j x y U V within left right low high first second =
    let rise = plane_rises t h i (suc i) (omega arith) in
    let depth = h.gammas_rise j (suc j) (omega arith) within in
    let on_x : IsOn (plane t i) (plane t (suc i)) (millionths x) = record { rise = rise; low = millionths_le _ _ left; high = millionths_le _ _ right } in
    let on_y : IsOn (gamma t j) (gamma t (suc j)) (millionths y) = record { rise = depth; low = millionths_le _ _ low; high = millionths_le _ _ high } in
    eq_trans_f ((end_straight end t h i j within).value (millionths x) (millionths y) on_x on_y)
    (line_ratio U V (68719476736 * (gamma t (suc j) - gamma t j)) (plane t i) (plane t (suc i)) x _ _ left right rise
    (mul-pos {m = 68719476736} {n = gamma t (suc j) - gamma t j} (omega arith) (omega arith)) first second)

-- the same, the next plane and the next gamma numbered in another way
pub corner_next : (end : Interval → Fraction) (t : Table) → IsTable t → (i j i' j' x y U V : ℕ) → i' ≡ suc i → j' ≡ suc j → j' < length t.gammas
    → plane t i ≤ x → x ≤ plane t i' → gamma t j ≤ y → y ≤ gamma t j'
    → between (millionths y) (gamma t j) (end (value t i j)) (gamma t j') (end (value t i j')) ≈ᶠ ratio U (68719476736 * (gamma t j' - gamma t j))
    → between (millionths y) (gamma t j) (end (value t i' j)) (gamma t j') (end (value t i' j')) ≈ᶠ ratio V (68719476736 * (gamma t j' - gamma t j))
    → end_at end t (millionths x) (millionths y)
    ≈ᶠ ratio (U * (plane t i' - x) + V * (x - plane t i)) (68719476736 * (gamma t j' - gamma t j) * (plane t i' - plane t i))
corner_next end t h i j i' j' x y U V e e' = rw (e, e') (corner_value end t h i j x y U V)

-- ---- rounded

rounded_down : (N T v w q : ℕ) → q * (w * v) ≤ N → q * (T * v * w) ≤ N * T
rounded_down N T v w q h = omega (arith, mul-le-mul_left T h)

rounded_up : (N T v w q : ℕ) → N ≤ q * (w * v) → N * T ≤ q * (T * v * w)
rounded_up N T v w q h = omega (arith, mul-le-mul_left T h)

ticks_below : (N v w q : ℕ) → 0 < v → 0 < w → q * (w * v) ≤ N → ticks q ≤ᶠ ratio N (68719476736 * v * w)
unfolding ticks
ticks_below N v w q p s h =
    le_ratio N (68719476736 * v * w) (ticks q) (mul-pos (mul-pos {m = 68719476736} {n = v} (omega arith) p) s) (rounded_down N 68719476736 v w q h)

ticks_above : (N v w q : ℕ) → 0 < v → 0 < w → N ≤ q * (w * v) → ratio N (68719476736 * v * w) ≤ᶠ ticks q
unfolding ticks
ticks_above N v w q p s h =
    ratio_le N (68719476736 * v * w) (ticks q) (mul-pos (mul-pos {m = 68719476736} {n = v} (omega arith) p) s) (rounded_up N 68719476736 v w q h)

less_one : (q A N : ℕ) → q * A < N + A → (q - 1) * A ≤ N
less_one q A N h = elim (cases_lt 0 q) [
  | inl l ↦ let e : q ≡ (q - 1) + 1 = omega arith in let f = ap (λ (z : ℕ). z * A) e in omega arith
  | inr z ↦ let e : q - 1 ≡ 0 = omega arith in rw e (omega arith)
]

pub corner_rounds : (f g : Fraction) (N M v w lo hi : ℕ) → 0 < v → 0 < w → N ≤ M
    → f ≈ᶠ ratio N (68719476736 * v * w) → g ≈ᶠ ratio M (68719476736 * v * w) → lo ≡ N / (w * v) → hi ≡ div_ceil M (w * v) → Rounds f g lo hi
corner_rounds f g N M v w lo hi p q order e e' l l' =
    let A : 0 < w * v = mul-pos q p in
    let up = div_ceil_times M (w * v) A in
    record {
      low = rw l (le_trans_f (ticks_below N v w (N / (w * v)) p q (div-mul-le_self N (w * v))) (ge_of_eq_f e));
      low_near = rw l (le_trans_f (le_of_eq_f e) (ticks_above N v w (N / (w * v) + 1) p q (let b = lt-div-mul-add {a = N} A in omega arith)));
      high = rw l' (le_trans_f (le_of_eq_f e') (ticks_above M v w (div_ceil M (w * v)) p q up.0));
      high_near = rw l' (le_trans_f (ticks_below M v w (div_ceil M (w * v) - 1) p q (less_one (div_ceil M (w * v)) (w * v) M up.1)) (ge_of_eq_f e'));
      in_order = rw (l, l') (quotients-in_order N (w * v) M (w * v) order A (omega arith));
    }

-- outside the gammas
pub dark_rounds : (f g : Fraction) → f ≡ whole 0 → g ≡ whole 0 → Rounds f g 0 0
unfolding ticks whole
dark_rounds f g e e' = rw (e, e') (record {
  low = record { cross = omega arith };
  low_near = record { cross = omega arith };
  high = record { cross = omega arith };
  high_near = record { cross = omega arith };
  in_order = omega arith;
})
