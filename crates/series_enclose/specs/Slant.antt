-- The angle of a slope, enclosed at every depth n by multiples of 2^-n degrees.
use Rattle.std.specs.Prelude.{ℕ, ◌*◌, ◌^◌, Bool}
use Rattle.fx_base.specs.Fraction.{Fraction, ◌*ᶠ◌, whole, at_most}
use Rattle.fx_base.specs.Interval.{Interval}
use Rattle.fx_base.specs.Search.{greatest, least}
use Rattle.fx_base.specs.Root.{halved}
use Rattle.series_enclose.specs.Series.{pi, radians, sine_of, cosine_of}

-- the squared tangent of g is at most y / x, and at least that, by the sine and the cosine at depth n with pi in p
unfoldable pub is_below_slope : (p : Interval) (n x y : ℕ) → Fraction → Bool
is_below_slope p n x y g =
    let s = (sine_of (radians p g) n).hi in
    let c = (cosine_of (radians p g) n).lo in
    at_most ((s *ᶠ s) *ᶠ whole x) ((c *ᶠ c) *ᶠ whole y)

unfoldable pub is_above_slope : (p : Interval) (n x y : ℕ) → Fraction → Bool
is_above_slope p n x y g =
    let s = (sine_of (radians p g) n).lo in
    let c = (cosine_of (radians p g) n).hi in
    at_most ((c *ᶠ c) *ᶠ whole y) ((s *ᶠ s) *ᶠ whole x)

-- from the greatest candidate that is below the slope to the least that is above it, which is 45 where none is
unfoldable pub slant_with : Interval → ℕ → ℕ → ℕ → Interval
slant_with p n x y = record {
  lo = halved n (greatest (λ j. is_below_slope p n x y (halved n j)) (45 * 2 ^ n));
  hi = halved n (least (λ j. is_above_slope p n x y (halved n j)) (45 * 2 ^ n) 0);
}

-- the angle whose squared tangent is y / x, for y at most x and x positive
unfoldable pub slant : ℕ → ℕ → ℕ → Interval
slant n x y = slant_with (pi n) n x y
