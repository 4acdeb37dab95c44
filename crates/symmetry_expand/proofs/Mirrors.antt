-- A straight line moved along its axis, and mirrored.
use Rattle.std.proofs.Common.{ℕ, ◌+◌, ◌-◌, ◌*◌, ◌≡◌, max, arith, ap}
use Rattle.std.proofs.Math.Nat.{mul-sub}
use Rattle.fx_base.specs.Fraction.{Fraction, ◌≈ᶠ◌, ◌*ᶠ◌}
use Rattle.fx_base.proofs.Order.{le_refl_f, le_trans_f, le_of_eq_f, ge_of_eq_f, eq_of_le_f, add_le_f, mul_le_f, add_comm_f}
use Rattle.photo_table.specs.Axis.{ahead, behind, between}

-- x and a more is y and b more; angles are millionths of a degree
pub record IsMoved (x y : Fraction) (a b : ℕ) : Type 0 where
  pub cross : (x.num * 1000000 + a * x.den) * y.den ≡ (y.num * 1000000 + b * y.den) * x.den

-- x and y and b more are a together
pub record IsMirrored (x y : Fraction) (a b : ℕ) : Type 0 where
  pub cross : x.num * 1000000 * y.den + (y.num * 1000000 + b * y.den) * x.den ≡ a * (x.den * y.den)

moved_ahead : (b b' s s' X x Y y : ℕ) → b + s ≡ b' + s' → (X + s * x) * y ≡ (Y + s' * y) * x → (b * x - X) * y ≡ (b' * y - Y) * x
moved_ahead b b' s s' X x Y y e h = omega (arith, mul-sub y (b * x) X, mul-sub x (b' * y) Y, h, ap (λ (z : ℕ). z * (x * y)) e)

moved_behind : (a a' s s' X x Y y : ℕ) → a + s ≡ a' + s' → (X + s * x) * y ≡ (Y + s' * y) * x → (X - a * x) * y ≡ (Y - a' * y) * x
moved_behind a a' s s' X x Y y e h = omega (arith, mul-sub y X (a * x), mul-sub x Y (a' * y), h, ap (λ (z : ℕ). z * (x * y)) e)

scaled : (P Q x y w w' : ℕ) → w ≡ w' → P * y ≡ Q * x → P * (w' * y) ≡ Q * (w * x)
scaled P Q x y w w' e h = rw e (let f = ap (λ (z : ℕ). w' * z) h in omega (arith, f))

front : (a b a' b' s s' : ℕ) (x y : Fraction) → max 1 (b - a) ≡ max 1 (b' - a') → b + s ≡ b' + s' → IsMoved x y s s' → ahead a b x ≈ᶠ ahead a' b' y
unfolding ahead
front a b a' b' s s' x y w f h = record {
  cross = scaled (b * x.den - x.num * 1000000) (b' * y.den - y.num * 1000000) x.den y.den (max 1 (b - a)) (max 1 (b' - a')) w
      (moved_ahead b b' s s' (x.num * 1000000) x.den (y.num * 1000000) y.den f h.cross);
}

rear : (a b a' b' s s' : ℕ) (x y : Fraction) → max 1 (b - a) ≡ max 1 (b' - a') → a + s ≡ a' + s' → IsMoved x y s s' → behind a b x ≈ᶠ behind a' b' y
unfolding behind
rear a b a' b' s s' x y w e h = record {
  cross = scaled (x.num * 1000000 - a * x.den) (y.num * 1000000 - a' * y.den) x.den y.den (max 1 (b - a)) (max 1 (b' - a')) w
      (moved_behind a a' s s' (x.num * 1000000) x.den (y.num * 1000000) y.den e h.cross);
}

pub between_moved : (a b a' b' s s' : ℕ) (x y u v : Fraction) → a + s ≡ a' + s' → b + s ≡ b' + s' → IsMoved x y s s'
    → between x a u b v ≈ᶠ between y a' u b' v
unfolding between
between_moved a b a' b' s s' x y u v e f h =
    let w : max 1 (b - a) ≡ max 1 (b' - a') = omega arith in
    let l = front a b a' b' s s' x y w f h in
    let r = rear a b a' b' s s' x y w e h in
    eq_of_le_f
    (add_le_f (mul_le_f (le_refl_f u) (le_of_eq_f l)) (mul_le_f (le_refl_f v) (le_of_eq_f r)))
    (add_le_f (mul_le_f (le_refl_f u) (ge_of_eq_f l)) (mul_le_f (le_refl_f v) (ge_of_eq_f r)))

-- ---- mirrored: knots a and b are b' and a' on the other side

-- (x and y and t more are s together)
mirrored_ahead : (b a' s t X x Y y : ℕ) → b + t + a' ≡ s → Y * x + (X + t * x) * y ≡ s * (y * x) → (b * x - X) * y ≡ (Y - a' * y) * x
mirrored_ahead b a' s t X x Y y e h = omega (arith, mul-sub y (b * x) X, mul-sub x Y (a' * y), h, ap (λ (z : ℕ). z * (x * y)) e)

mirrored_behind : (a b' s t X x Y y : ℕ) → a + t + b' ≡ s → Y * x + (X + t * x) * y ≡ s * (y * x) → (X - a * x) * y ≡ (b' * y - Y) * x
mirrored_behind a b' s t X x Y y e h = omega (arith, mul-sub y X (a * x), mul-sub x (b' * y) Y, h, ap (λ (z : ℕ). z * (x * y)) e)

front_rear : (a b a' b' s t : ℕ) (x y : Fraction) → max 1 (b - a) ≡ max 1 (b' - a') → b + t + a' ≡ s → IsMirrored y x s t → ahead a b x ≈ᶠ behind a' b' y
unfolding ahead behind
front_rear a b a' b' s t x y w e h = record {
  cross = scaled (b * x.den - x.num * 1000000) (y.num * 1000000 - a' * y.den) x.den y.den (max 1 (b - a)) (max 1 (b' - a')) w
      (mirrored_ahead b a' s t (x.num * 1000000) x.den (y.num * 1000000) y.den e h.cross);
}

rear_front : (a b a' b' s t : ℕ) (x y : Fraction) → max 1 (b - a) ≡ max 1 (b' - a') → a + t + b' ≡ s → IsMirrored y x s t → behind a b x ≈ᶠ ahead a' b' y
unfolding ahead behind
rear_front a b a' b' s t x y w e h = record {
  cross = scaled (x.num * 1000000 - a * x.den) (b' * y.den - y.num * 1000000) x.den y.den (max 1 (b - a)) (max 1 (b' - a')) w
      (mirrored_behind a b' s t (x.num * 1000000) x.den (y.num * 1000000) y.den e h.cross);
}

pub between_mirrored : (a b a' b' s t : ℕ) (x y u v : Fraction) → a + t + b' ≡ s → b + t + a' ≡ s → IsMirrored y x s t
    → between x a u b v ≈ᶠ between y a' v b' u
unfolding between
between_mirrored a b a' b' s t x y u v e f h =
    let w : max 1 (b - a) ≡ max 1 (b' - a') = omega arith in
    let l = front_rear a b a' b' s t x y w f h in
    let r = rear_front a b a' b' s t x y w e h in
    eq_of_le_f
    (le_trans_f (add_le_f (mul_le_f (le_refl_f u) (le_of_eq_f l)) (mul_le_f (le_refl_f v) (le_of_eq_f r))) (add_comm_f (u *ᶠ behind a' b' y) (v *ᶠ ahead a' b' y)))
    (le_trans_f (add_comm_f (v *ᶠ ahead a' b' y) (u *ᶠ behind a' b' y)) (add_le_f (mul_le_f (le_refl_f u) (ge_of_eq_f l)) (mul_le_f (le_refl_f v) (ge_of_eq_f r))))
