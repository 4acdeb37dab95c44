-- The enclosures at small depths, computed.
use Rattle.std.specs.Prelude.{◌≡◌, ◌&&◌, Bool, true, refl}
use Rattle.fx_base.specs.Fraction.{Fraction, ◌+ᶠ◌, ◌-ᶠ◌, ◌*ᶠ◌, whole, ratio, at_most}
use Rattle.fx_base.specs.Interval.{Interval}
use Rattle.fx_base.specs.Search.{greatest, least}
use Rattle.fx_base.specs.Root.{halved}
use Rattle.series_enclose.specs.Series.{upper_sum, lower_sum, power_over, arctan_term, one_fifth, one_of_239, pi, factorial, exponential_term, sine_term, cosine_term, sine_of, cosine_of, radians, sine, cosine}
use Rattle.series_enclose.specs.Slant.{is_below_slope, is_above_slope, slant_with, slant}

-- whatever the enclosures are made of
unfoldable pub all_series : Unit {0}
unfolding ◌+ᶠ◌ ◌-ᶠ◌ ◌*ᶠ◌ whole ratio greatest least halved upper_sum lower_sum power_over arctan_term one_fifth one_of_239 pi factorial exponential_term sine_term cosine_term sine_of cosine_of radians sine cosine is_below_slope is_above_slope slant_with slant
all_series = tt

-- ---- the enclosures at depth 0, to the last digit. The fractions are those of a program in Python that sums the same terms with
-- its own fractions: 16 (1/5 - 1/375) - 4/239 and 16/5 - 4 (1/239 - 1/(3 239^3)) for pi, and so on

is_interval : Interval → Fraction → Fraction → Bool
is_interval i a b = at_most i.lo a && at_most a i.lo && at_most i.hi b && at_most b i.hi

pi_at_depth_0 : is_interval (pi 0) (ratio 281476 89625) (ratio 651864872 204778785) ≡ true
unfolding all_series is_interval
pi_at_depth_0 = refl

pi_at_depth_1 : is_interval (pi 1) (ratio 1339760982986645756 426459285655703125) (ratio 15305839961353732690848 4871956171187883640625) ≡ true
unfolding all_series is_interval
pi_at_depth_1 = refl

sine_at_depth_0 : is_interval (sine 0 (whole 45)) (ratio 3043040384790341 4319552496093750) (ratio 162966218 204778785) ≡ true
unfolding all_series is_interval
sine_at_depth_0 = refl

cosine_at_depth_0 : is_interval (cosine 0 (whole 45)) (ratio 28655356681464463 41934350786076225) (whole 1) ≡ true
unfolding all_series is_interval
cosine_at_depth_0 = refl

-- ---- the first digits

-- pi is 3.14159265..
pi_from : at_most (ratio 3141592 1000000) (pi 2).lo ≡ true
unfolding all_series
pi_from = refl

pi_to : at_most (pi 2).hi (ratio 3141593 1000000) ≡ true
unfolding all_series
pi_to = refl

-- the sine of 30 degrees is 1/2
half_from : at_most (ratio 499999 1000000) (sine 2 (whole 30)).lo ≡ true
unfolding all_series
half_from = refl

half_below : at_most (sine 2 (whole 30)).lo (ratio 1 2) ≡ true
unfolding all_series
half_below = refl

half_above : at_most (ratio 1 2) (sine 2 (whole 30)).hi ≡ true
unfolding all_series
half_above = refl

half_to : at_most (sine 2 (whole 30)).hi (ratio 500001 1000000) ≡ true
unfolding all_series
half_to = refl

-- the cosine of 45 degrees is 0.70710678..
cosine_45_from : at_most (ratio 70710 100000) (cosine 2 (whole 45)).lo ≡ true
unfolding all_series
cosine_45_from = refl

cosine_45_to : at_most (cosine 2 (whole 45)).hi (ratio 70711 100000) ≡ true
unfolding all_series
cosine_45_to = refl

-- ---- slopes. A program in Python that tries every candidate with its own fractions gives the same ends

-- the angle of the squared slope 1/4 is 26.57 degrees
half_slope : slant 0 4 1 ≡ record { lo = halved 0 25; hi = halved 0 31 }
unfolding all_series
half_slope = refl

half_slope_later : slant 1 4 1 ≡ record { lo = halved 1 53; hi = halved 1 54 }
unfolding all_series
half_slope_later = refl

-- that of 1 is 45 degrees: no candidate is found above it
diagonal : slant 0 1 1 ≡ record { lo = halved 0 41; hi = halved 0 45 }
unfolding all_series
diagonal = refl

-- that of 0 is 0
level : slant 0 1 0 ≡ record { lo = halved 0 0; hi = halved 0 0 }
unfolding all_series
level = refl
