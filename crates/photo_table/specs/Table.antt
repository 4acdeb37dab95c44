-- A table of intensities, and the value between its directions. Angles are millionths of a degree, intensities intervals of candela.
use Rattle.std.specs.Prelude.{ℕ, suc, ◌+◌, ◌-◌, ◌*◌, ◌/◌, ◌%◌, ◌<◌, ◌≤◌, ◌≡◌, ◌&&◌, if◌then◌else◌, List, length, slice_index_or}
use Rattle.fx_base.specs.Fraction.{Fraction, at_most, whole}
use Rattle.fx_base.specs.Interval.{Interval, exact}
use Rattle.fx_base.specs.Units.{millionths}
use Rattle.photo_table.specs.Angles.{turn_later}
use Rattle.photo_table.specs.Axis.{along}

-- half-planes C round the vertical, gammas from 0 below the lamp to 180 above it, and an intensity for each pair, plane by plane
pub record Table : Type 0 where
  pub planes : List ℕ
  pub gammas : List ℕ
  pub values : List Interval

-- the plane of number i; after the last one comes the first one a turn later, and so on
unfoldable pub plane : Table → ℕ → ℕ
plane t i = slice_index_or t.planes (i % length t.planes) 0 + 360000000 * (i / length t.planes)

abbrev pub gamma : Table → ℕ → ℕ
gamma t j = slice_index_or t.gammas j 0

abbrev pub last_gamma : Table → ℕ
last_gamma t = gamma t (length t.gammas - 1)

-- the intensity in plane i at gamma j
unfoldable pub value : Table → ℕ → ℕ → Interval
value t i j = slice_index_or t.values (i % length t.planes * length t.gammas + j) (exact (whole 0))

-- the planes rise within one turn and the gammas up to 180 degrees, and there is an intensity for each pair
pub record IsTable (t : Table) : Type 0 where
  pub some_plane : 0 < length t.planes
  pub planes_rise : (i j : ℕ) → i < j → j < length t.planes → slice_index_or t.planes i 0 < slice_index_or t.planes j 0
  pub first_plane : slice_index_or t.planes 0 0 ≤ 360000000
  pub one_turn : (i : ℕ) → i < length t.planes → slice_index_or t.planes i 0 < slice_index_or t.planes 0 0 + 360000000
  pub two_gammas : 2 ≤ length t.gammas
  pub gammas_rise : (i j : ℕ) → i < j → j < length t.gammas → gamma t i < gamma t j
  pub gammas_up_to : (j : ℕ) → j < length t.gammas → gamma t j ≤ 180000000
  pub all_values : length t.values ≡ length t.planes * length t.gammas

-- the number of planes, a turn later and so on, up to the first of a turn that begins above x
abbrev pub planes_to : Table → Fraction → ℕ
planes_to t x = suc (length t.planes * suc (x.num / (360 * x.den)))

abbrev pub lower : Interval → Fraction
lower i = i.lo

abbrev pub upper : Interval → Fraction
upper i = i.hi

-- one end of the intensity at x round the vertical, not below the first plane, and y from it: in a straight line between
-- neighbouring gammas and between neighbouring planes, and 0 outside the gammas
unfoldable pub end_at : (Interval → Fraction) → Table → Fraction → Fraction → Fraction
end_at end t x y =
    if at_most (millionths (gamma t 0)) y && at_most y (millionths (last_gamma t))
    then along (plane t) (planes_to t x) (λ i. along (gamma t) (length t.gammas) (λ j. end (value t i j)) y) x
    else whole 0

-- the intensity in the direction C and gamma, whose ends are interpolated each for itself
unfoldable pub bilinear : Table → Fraction → Fraction → Interval
bilinear t c g = record { lo = end_at lower t (turn_later c) g; hi = end_at upper t (turn_later c) g }
