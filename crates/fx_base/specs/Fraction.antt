-- Fractions of whole numbers, none below 0, compared by their cross products and never reduced. A fraction carries the proof
-- that its denominator is positive, so that no comparison is empty.
use Rattle.std.specs.Prelude.{ℕ, zero, suc, ◌+◌, ◌-◌, ◌*◌, ◌^◌, ◌<◌, ◌≤◌, ◌≡◌, Bool, if◌then◌else◌, nat_le}
use Rattle.std.proofs.Math.Nat.{zero-lt-suc, mul-pos, one-le-pow}

pub record Fraction : Type 0 where
  pub num : ℕ
  pub den : ℕ
  pub positive : 0 < den

-- ---- order

infix 50 ◌≤ᶠ◌ ◌<ᶠ◌ ◌≈ᶠ◌
pub record ◌≤ᶠ◌ (a b : Fraction) : Type 0 where
  pub cross : a.num * b.den ≤ b.num * a.den

pub record ◌<ᶠ◌ (a b : Fraction) : Type 0 where
  pub cross : a.num * b.den < b.num * a.den

-- the same number
pub record ◌≈ᶠ◌ (a b : Fraction) : Type 0 where
  pub cross : a.num * b.den ≡ b.num * a.den

-- the order as a test
abbrev pub at_most : Fraction → Fraction → Bool
at_most a b = nat_le (a.num * b.den) (b.num * a.den)

-- ---- made of numbers

-- n / d, and 0 where d is 0: each definition that takes a quotient sees to it that this case doesn't count
unfoldable pub ratio : ℕ → ℕ → Fraction
ratio n zero = record { num = 0; den = 1; positive = zero-lt-suc 0 }
ratio n (suc d) = record { num = n; den = suc d; positive = zero-lt-suc d }

unfoldable pub whole : ℕ → Fraction
whole n = record { num = n; den = 1; positive = zero-lt-suc 0 }

-- 1 / 2^n
unfoldable pub half_power : ℕ → Fraction
half_power n = record { num = 1; den = 2 ^ n; positive = one-le-pow n 2 (zero-lt-suc 1) }

-- ---- arithmetic

infixl 60 ◌+ᶠ◌ ◌-ᶠ◌
infixl 70 ◌*ᶠ◌ ◌/ᶠ◌
unfoldable pub ◌+ᶠ◌ : Fraction → Fraction → Fraction
a +ᶠ b = record { num = a.num * b.den + b.num * a.den; den = a.den * b.den; positive = mul-pos a.positive b.positive }

-- the difference, and 0 where it would be less
unfoldable pub ◌-ᶠ◌ : Fraction → Fraction → Fraction
a -ᶠ b = record { num = a.num * b.den - b.num * a.den; den = a.den * b.den; positive = mul-pos a.positive b.positive }

unfoldable pub ◌*ᶠ◌ : Fraction → Fraction → Fraction
a *ᶠ b = record { num = a.num * b.num; den = a.den * b.den; positive = mul-pos a.positive b.positive }

-- the quotient, and 0 where b is 0
unfoldable pub ◌/ᶠ◌ : Fraction → Fraction → Fraction
a /ᶠ b = ratio (a.num * b.den) (a.den * b.num)

unfoldable pub lesser : Fraction → Fraction → Fraction
lesser a b = if at_most a b then a else b

unfoldable pub greater : Fraction → Fraction → Fraction
greater a b = if at_most a b then b else a

-- f 0 + .. + f (n - 1)
unfoldable pub sum_to : ℕ → (ℕ → Fraction) → Fraction
sum_to zero f = whole 0
sum_to (suc n) f = sum_to n f +ᶠ f n
