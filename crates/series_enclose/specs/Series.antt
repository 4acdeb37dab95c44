-- Pi, sine and cosine, enclosed at every depth n by the first terms of their series. Angles are in degrees.
use Rattle.std.specs.Prelude.{ℕ, zero, suc, ◌+◌, ◌*◌, ◌^◌, ◌<◌}
use Rattle.std.proofs.Math.Nat.{zero-lt-suc, mul-pos, one-le-pow}
use Rattle.fx_base.specs.Fraction.{Fraction, ◌+ᶠ◌, ◌-ᶠ◌, ◌*ᶠ◌, whole, ratio}
use Rattle.fx_base.specs.Interval.{Interval}

-- ---- series whose terms are added and taken away in turn

-- the first 2n + 1 terms
unfoldable pub upper_sum : (ℕ → Fraction) → ℕ → Fraction
upper_sum term zero = term 0
upper_sum term (suc n) = (upper_sum term n -ᶠ term (2 * n + 1)) +ᶠ term (2 * n + 2)

-- the first 2n + 2 terms
unfoldable pub lower_sum : (ℕ → Fraction) → ℕ → Fraction
lower_sum term n = upper_sum term n -ᶠ term (2 * n + 1)

-- x^m / d
unfoldable pub power_over : (x : Fraction) (m d : ℕ) → 0 < d → Fraction
power_over x m d p = record { num = x.num ^ m; den = x.den ^ m * d; positive = mul-pos (one-le-pow m x.den x.positive) p }

-- ---- pi

-- arctan t = t - t^3/3 + t^5/5 - ..
unfoldable pub arctan_term : Fraction → ℕ → Fraction
arctan_term t k = power_over t (suc (2 * k)) (suc (2 * k)) (zero-lt-suc (2 * k))

unfoldable pub one_fifth : Fraction
one_fifth = ratio 1 5

unfoldable pub one_of_239 : Fraction
one_of_239 = ratio 1 239

-- pi = 16 arctan(1/5) - 4 arctan(1/239) (Machin)
unfoldable pub pi : ℕ → Interval
pi n = record {
  lo = (whole 16 *ᶠ lower_sum (arctan_term one_fifth) n) -ᶠ (whole 4 *ᶠ upper_sum (arctan_term one_of_239) n);
  hi = (whole 16 *ᶠ upper_sum (arctan_term one_fifth) n) -ᶠ (whole 4 *ᶠ lower_sum (arctan_term one_of_239) n);
}

-- ---- sine and cosine of 0 to 45 degrees

unfoldable pub factorial : ℕ → ℕ
factorial zero = 1
factorial (suc n) = suc n * factorial n

pub factorial_positive : (n : ℕ) → 0 < factorial n
unfolding factorial
factorial_positive zero = zero-lt-suc 0
factorial_positive (suc n) = mul-pos (zero-lt-suc n) (factorial_positive n)

-- x^m / m!
unfoldable pub exponential_term : Fraction → ℕ → Fraction
exponential_term x m = power_over x m (factorial m) (factorial_positive m)

-- sin x = x - x^3/3! + .., and cos x = 1 - x^2/2! + ..
unfoldable pub sine_term : Fraction → ℕ → Fraction
sine_term x k = exponential_term x (2 * k + 1)

unfoldable pub cosine_term : Fraction → ℕ → Fraction
cosine_term x k = exponential_term x (2 * k)

-- the sine rises with x, and the cosine falls
unfoldable pub sine_of : Interval → ℕ → Interval
sine_of x n = record { lo = lower_sum (sine_term x.lo) n; hi = upper_sum (sine_term x.hi) n }

unfoldable pub cosine_of : Interval → ℕ → Interval
cosine_of x n = record { lo = lower_sum (cosine_term x.hi) n; hi = upper_sum (cosine_term x.lo) n }

-- g degrees in radians, with pi in p
unfoldable pub radians : Interval → Fraction → Interval
radians p g = record { lo = (g *ᶠ p.lo) *ᶠ ratio 1 180; hi = (g *ᶠ p.hi) *ᶠ ratio 1 180 }

unfoldable pub sine : ℕ → Fraction → Interval
sine n g = sine_of (radians (pi n) g) n

unfoldable pub cosine : ℕ → Fraction → Interval
cosine n g = cosine_of (radians (pi n) g) n
