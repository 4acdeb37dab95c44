-- Means and fluxes of small tables, computed.
use Rattle.std.specs.Prelude.{ℕ, ◌≡◌, ◌&&◌, Bool, true, refl, [], ◌∷◌}
use Rattle.fx_base.specs.Fraction.{Fraction, at_most, ratio, whole, sum_to}
use Rattle.fx_base.specs.Interval.{Interval, exact}
use Rattle.fx_base.specs.Units.{ticks}
use Rattle.photo_table.specs.Table.{Table}
use Rattle.photo_table.specs.Tests.{computed}
use Rattle.zonal_flux.specs.Fluxes.{in_plane, half_sector, part, mean, into_zone, into_zones, total, allowance}
use Rattle.zonal_flux.specs.ZoneTests.{all_zones, lies_between}
use Rattle.zonal_flux.specs.Steps.{slack}

unfoldable all_fluxes : Unit {0}
unfolding computed all_zones ratio whole sum_to in_plane half_sector part mean into_zone into_zones total
all_fluxes = tt

abbrev candela : ℕ → Interval
candela n = exact (whole n)

is : Interval → Fraction → Bool
is i a = at_most i.lo a && at_most a i.lo && at_most i.hi a && at_most a i.hi

-- ---- means

-- 100, 200 and 400 candela in the half-planes 0, 90 and 270, the same at gammas 0 and 180
abbrev three_planes : Table
three_planes = record {
  planes = 0 ∷ 90000000 ∷ 270000000 ∷ [];
  gammas = 0 ∷ 180000000 ∷ [];
  values = candela 100 ∷ candela 100 ∷ candela 200 ∷ candela 200 ∷ candela 400 ∷ candela 400 ∷ [];
}

-- after the last plane comes the first one
seam : is (in_plane three_planes 7 3) (whole 100) ≡ true
unfolding all_fluxes is
seam = refl

-- the sector from 90 to 270 is half of the turn, and its planes have the mean 300
half_of_the_turn : is (part three_planes 7 1) (whole 150) ≡ true
unfolding all_fluxes is
half_of_the_turn = refl

-- 150 for a quarter, 300 for a half, 250 for a quarter
mean_round_the_turn : is (mean three_planes 7) (whole 250) ≡ true
unfolding all_fluxes is
mean_round_the_turn = refl

-- 300 candela straight down and 0 at gamma 90, where the table ends
abbrev falling : Table
falling = record { planes = 0 ∷ []; gammas = 0 ∷ 90000000 ∷ []; values = candela 300 ∷ candela 0 ∷ [] }

-- 300 (90 - 2.5) / 90 in the middle of the first zone, 300 * 2.5 / 90 in that of the last one below the level plane, nothing above
in_the_first_zone : is (mean falling 0) (ratio 875 3) ≡ true
unfolding all_fluxes is
in_the_first_zone = refl

in_the_last_zone : is (mean falling 17) (ratio 25 3) ≡ true
unfolding all_fluxes is
in_the_last_zone = refl

above : is (mean falling 18) (whole 0) ≡ true
unfolding all_fluxes is
above = refl

-- ---- fluxes

-- an even lamp of one candela
abbrev even : Table
even = record { planes = 0 ∷ []; gammas = 0 ∷ 180000000 ∷ []; values = candela 1 ∷ candela 1 ∷ [] }

-- from 40 degrees to 50 it sends 2 pi (cos 40 - cos 50) lumens, 0.7744455 by Python's mpmath
two_zones : lies_between (into_zones 2 even 8 2) (ratio 774435 1000000) (ratio 774455 1000000) ≡ true
unfolding all_fluxes lies_between
two_zones = refl

-- ---- what spans are moved outward by

-- a candela by 2^20, and a thousandth
allowance_of_a_candela : (at_most (allowance 68719476736) (ratio 1049576 1048576000) && at_most (ratio 1049576 1048576000) (allowance 68719476736)) ≡ true
unfolding all_fluxes ticks
allowance_of_a_candela = refl

-- 2^26 ticks move a zone's flux by one tick more
slack_of_a_million : slack 67108863 ≡ 101
slack_of_a_million = refl
