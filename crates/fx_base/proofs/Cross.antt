-- Cross products of whole numbers: the laws of fractions a/A, b/B, .. before there are fractions. A capital letter is the
-- denominator of the small one.
use Rattle.std.proofs.Common.{ℕ, ◌+◌, ◌-◌, ◌*◌, ◌<◌, ◌≤◌, arith}
use Rattle.std.proofs.Math.Nat.{mul-le-mul_left, mul-lt-mul_of_pos_left, le_of_mul-le-mul_left, lt_of_mul-lt-mul_left, mul-le-mul, mul-sub, mul-pos}

-- ---- order

pub cross_trans : (a A b B c C : ℕ) → 0 < B → a * B ≤ b * A → b * C ≤ c * B → a * C ≤ c * A
cross_trans a A b B c C p g h =
    le_of_mul-le-mul_left {k = B} (omega (arith, mul-le-mul_left C g, mul-le-mul_left A h)) p

pub cross_trans_lt_le : (a A b B c C : ℕ) → 0 < C → a * B < b * A → b * C ≤ c * B → a * C < c * A
cross_trans_lt_le a A b B c C p g h =
    lt_of_mul-lt-mul_left B (omega (arith, mul-lt-mul_of_pos_left g p, mul-le-mul_left A h))

pub cross_trans_le_lt : (a A b B c C : ℕ) → 0 < A → a * B ≤ b * A → b * C < c * B → a * C < c * A
cross_trans_le_lt a A b B c C p g h =
    lt_of_mul-lt-mul_left B (omega (arith, mul-le-mul_left C g, mul-lt-mul_of_pos_left h p))

-- ---- sums and products

pub cross_add : (a A b B c C d D : ℕ) → a * C ≤ c * A → b * D ≤ d * B → (a * B + b * A) * (C * D) ≤ (c * D + d * C) * (A * B)
cross_add a A b B c C d D g h = omega (arith, mul-le-mul_left (B * D) g, mul-le-mul_left (A * C) h)

pub cross_add_lt : (a A b B c C d D : ℕ) → 0 < B * D → a * C < c * A → b * D ≤ d * B → (a * B + b * A) * (C * D) < (c * D + d * C) * (A * B)
cross_add_lt a A b B c C d D p g h = omega (arith, mul-lt-mul_of_pos_left g p, mul-le-mul_left (A * C) h)

pub cross_mul : (a A b B c C d D : ℕ) → a * C ≤ c * A → b * D ≤ d * B → (a * b) * (C * D) ≤ (c * d) * (A * B)
cross_mul a A b B c C d D g h = omega (arith, mul-le-mul {n₁ = a * C} {m₁ = b * D} {n₂ = c * A} {m₂ = d * B} g h)

pub cross_mul_lt : (a A b B c C d D : ℕ) → 0 < b * D → a * C < c * A → b * D ≤ d * B → (a * b) * (C * D) < (c * d) * (A * B)
cross_mul_lt a A b B c C d D p g h = omega (arith, mul-lt-mul_of_pos_left g p, mul-le-mul_left (c * A) h)

pub cross_cancel : (a A b B c C : ℕ) → 0 < C → (a * C + c * A) * (B * C) ≤ (b * C + c * B) * (A * C) → a * B ≤ b * A
cross_cancel a A b B c C p h =
    let q : 0 < C * C = mul-pos p p in
    le_of_mul-le-mul_left {k = C * C} (omega (arith, h)) q

pub cross_mul_cancel : (a A b B c C : ℕ) → 0 < c → 0 < C → (a * c) * (B * C) ≤ (b * c) * (A * C) → a * B ≤ b * A
cross_mul_cancel a A b B c C p q h = le_of_mul-le-mul_left {k = c * C} (omega (arith, h)) (mul-pos p q)

-- ---- differences, which stop at 0: (a/A) - (b/B) ≤ c/C where a/A ≤ c/C + b/B, and back

pub cross_sub : (a A b B c C : ℕ) → a * (C * B) ≤ (c * B + b * C) * A → (a * B - b * A) * C ≤ c * (A * B)
cross_sub a A b B c C h = omega (arith, mul-sub C (a * B) (b * A), h)

pub cross_sub_back : (a A b B c C : ℕ) → (a * B - b * A) * C ≤ c * (A * B) → a * (C * B) ≤ (c * B + b * C) * A
cross_sub_back a A b B c C h = omega (arith, mul-sub C (a * B) (b * A), h)

-- c/C ≤ (a/A) - (b/B) where c/C + b/B ≤ a/A
pub cross_below_sub : (a A b B c C : ℕ) → (c * B + b * C) * A ≤ a * (C * B) → c * (A * B) ≤ (a * B - b * A) * C
cross_below_sub a A b B c C h = omega (arith, mul-sub C (a * B) (b * A), h)
