-- How sine and cosine are summed in ticks. Both are the series x^o/o! - x^(o + 2)/(o + 2)! + .., the sine with o = 1, the cosine
-- with o = 0.
use Rattle.std.specs.Prelude.{ℕ, ◌+◌, ◌*◌, ◌<◌, ◌≤◌}
use Rattle.fx_base.specs.Fraction.{Fraction, ◌≤ᶠ◌, ◌*ᶠ◌, whole}
use Rattle.fx_base.specs.Units.{ticks}
use Rattle.series_enclose.specs.Series.{upper_sum, lower_sum, exponential_term}

unfoldable pub series_term : ℕ → Fraction → ℕ → Fraction
series_term o x k = exponential_term x (2 * k + o)

-- the product of t and s by d in ticks, rounded down and up, for t and s between their ends
pub record IsProduct (d t_lo t_hi s_lo s_hi lo hi : ℕ) : Type 0 where
  pub low : lo * (68719476736 * d) ≤ t_lo * s_lo
  pub low_near : t_lo * s_lo < (lo + 1) * (68719476736 * d)
  pub high : t_hi * s_hi ≤ hi * (68719476736 * d)
  pub high_near : hi * (68719476736 * d) < t_hi * s_hi + 68719476736 * d

-- the fraction lies between two ends in ticks
pub record IsBetween (lo hi : ℕ) (x : Fraction) : Type 0 where
  pub low : ticks lo ≤ᶠ x
  pub high : x ≤ᶠ ticks hi

-- an x whose square and whose first two terms lie between these ends
pub record IsStart (o first_lo first_hi second_lo second_hi square_lo square_hi : ℕ) (x : Fraction) : Type 0 where
  pub small : x ≤ᶠ whole 1
  pub square : IsBetween square_lo square_hi (x *ᶠ x)
  pub first : IsBetween first_lo first_hi (series_term o x 0)
  pub second : IsBetween second_lo second_hi (series_term o x 1)

-- the sums of seven and of eight terms lie between these ends
pub record IsSum (o lo hi : ℕ) (x : Fraction) : Type 0 where
  pub low : ticks lo ≤ᶠ lower_sum (series_term o x) 3
  pub high : upper_sum (series_term o x) 3 ≤ᶠ ticks hi
