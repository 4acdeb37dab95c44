-- The 36 zones of gamma, each 5 degrees wide, from straight down to straight up, and the solid angle of each: 2 pi (cos a - cos b) for
-- the zone from a to b degrees. The lighting textbooks call it the zonal constant (IES Lighting Handbook).
use Rattle.std.specs.Prelude.{ℕ, ◌+◌, ◌-◌, ◌*◌, ◌^◌, ◌≤◌, ◌≤ℤ◌, ◌+ℤ◌, pos, if◌then◌else◌, nat_le, nat_lt}
use Rattle.fx_base.specs.Fraction.{Fraction, ◌-ᶠ◌, ◌*ᶠ◌, whole}
use Rattle.fx_base.specs.Interval.{Interval, Meets}
use Rattle.fx_base.specs.Ends.{Ends}
use Rattle.fx_base.specs.Units.{millionths, of_span, natural}
use Rattle.series_enclose.specs.Series.{pi, sine, cosine}

-- m degrees
abbrev pub degrees : ℕ → Fraction
degrees m = millionths (m * 1000000)

-- the cosine of m degrees up to 90: beyond 45 it is the sine of what is left to 90
unfoldable pub cosine_at : ℕ → ℕ → Interval
cosine_at n m = if nat_le m 45 then cosine n (degrees m) else sine n (degrees (90 - m))

-- twice an interval
unfoldable pub twice : Interval → Interval
twice i = record { lo = whole 2 *ᶠ i.lo; hi = whole 2 *ᶠ i.hi }

-- how far the one lies above the other, and 0 in place of an end below 0
unfoldable pub difference : Interval → Interval → Interval
difference a b = record { lo = a.lo -ᶠ b.hi; hi = a.hi -ᶠ b.lo }

-- the product of two intervals
unfoldable pub product : Interval → Interval → Interval
product a b = record { lo = a.lo *ᶠ b.lo; hi = a.hi *ᶠ b.hi }

-- zones 18 to 35 lie above the level plane as zones 17 to 0 lie below it
abbrev pub below : ℕ → ℕ
below k = if nat_lt k 18 then k else 35 - k

-- the constant of zone k, enclosed at depth n
unfoldable pub constant : ℕ → ℕ → Interval
constant n k = product (twice (pi n)) (difference (cosine_at n (5 * below k)) (cosine_at n (5 * below k + 5)))

-- a span of the constant of zone k: it meets the enclosure at every depth, is at most 1,024 ticks wide, and its ends lie in order from
-- 0 to 2^40 ticks
pub record IsConstant (k : ℕ) (span : Ends) : Type 0 where
  pub meets : (n : ℕ) → Meets (of_span span) (constant n k)
  pub narrow : span.hi ≤ℤ (span.lo +ℤ pos 1024)
  pub low : pos 0 ≤ℤ span.lo
  pub in_order : span.lo ≤ℤ span.hi
  pub high : natural span.hi ≤ 2 ^ 40
