-- The constants of zones at small depths, computed. The bounds are digits of Python's mpmath: 2 pi (cos a - cos b).
use Rattle.std.specs.Prelude.{ℕ, ◌≡◌, ◌&&◌, Bool, true, refl}
use Rattle.fx_base.specs.Fraction.{Fraction, ratio, at_most}
use Rattle.fx_base.specs.Interval.{Interval}
use Rattle.fx_base.specs.Units.{millionths}
use Rattle.series_enclose.specs.SeriesTests.{all_series}
use Rattle.zonal_flux.specs.Zones.{cosine_at, twice, difference, product, constant}

-- whatever the constants are made of
unfoldable pub all_zones : Unit {0}
unfolding all_series millionths cosine_at twice difference product constant
all_zones = tt

-- both ends lie between a and b
unfoldable pub lies_between : Interval → Fraction → Fraction → Bool
lies_between i a b = at_most a i.lo && at_most i.lo i.hi && at_most i.hi b

-- 0.0239094
straight_down : lies_between (constant 2 0) (ratio 23905 1000000) (ratio 23915 1000000) ≡ true
unfolding all_zones lies_between
straight_down = refl

-- 0.4041292, from 45 degrees to 50, where the table changes from cosines to sines
from_45_to_50 : lies_between (constant 2 9) (ratio 404120 1000000) (ratio 404140 1000000) ≡ true
unfolding all_zones lies_between
from_45_to_50 = refl

-- 0.5476154
up_to_the_level_plane : lies_between (constant 2 17) (ratio 547605 1000000) (ratio 547625 1000000) ≡ true
unfolding all_zones lies_between
up_to_the_level_plane = refl

-- the zone above the level plane is as the zone below it, and straight up is as straight down
above_the_level_plane : (n : ℕ) → constant n 18 ≡ constant n 17
unfolding constant
above_the_level_plane n = refl

straight_up : (n : ℕ) → constant n 35 ≡ constant n 0
unfolding constant
straight_up n = refl
