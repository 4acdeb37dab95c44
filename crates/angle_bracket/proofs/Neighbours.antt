-- Two neighbouring angles in whole numbers: s and c stand for the sine and cosine of the one, t and f for those of the other.
use Rattle.std.proofs.Common.{ℕ, ◌+◌, ◌*◌, ◌<◌, ◌≤◌, inl, inr, arith}
use Rattle.std.proofs.Math.Nat.{mul-le-mul, mul-le-mul_left, mul-lt-mul_of_pos_left, mul-pos}
use Rattle.std.proofs.lemmas.Bool.{cases_lt}

-- the one has a tangent above the slope y / x, the other one at most that slope
tangents_in_order : (x y s c t f : ℕ) → 0 < f → (c * c) * y < (s * s) * x → (t * t) * x ≤ (f * f) * y → t * c < f * s
tangents_in_order x y s c t f p g h = elim (cases_lt (t * c) (f * s)) [
  | inl l ↦ l
  | inr k ↦
      let squares = mul-le-mul_left x (mul-le-mul {n₁ = f * s} {m₁ = f * s} {n₂ = t * c} {m₂ = t * c} k k) in
      absurd (omega (arith, squares, mul-le-mul_left (c * c) h, mul-lt-mul_of_pos_left g (mul-pos p p)))
]

-- which can't be where the sine rises by far more than the cosine may err
pub tan_step : (x y s c t f : ℕ) → s ≤ 68719476752 → 34359738352 ≤ c → s + 556 ≤ t → 0 < f → f ≤ c + 16
    → (c * c) * y < (s * s) * x → (t * t) * x ≤ (f * f) * y → ⊥
tan_step x y s c t f a b rise some near g h =
    let k = tangents_in_order x y s c t f some g h in
    omega (arith, k, mul-le-mul_left c rise, mul-le-mul_left s near)
