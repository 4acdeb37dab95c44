-- The flux of a table of intensities: in each zone of gamma the mean intensity round the vertical, times the solid angle of the zone.
-- This is the method of zonal lumens of the lighting textbooks (IES Lighting Handbook), in zones of 5 degrees.
use Rattle.std.specs.Prelude.{ℕ, ◌≡◌, ◌+◌, ◌-◌, ◌*◌, ◌^◌, ◌≤◌, ◌≤ℤ◌, pos, length}
use Rattle.fx_base.specs.Fraction.{Fraction, ◌+ᶠ◌, ◌*ᶠ◌, ratio}
use Rattle.fx_base.specs.Interval.{Interval, InOrder, Meets, LiesIn, outward, sum_of}
use Rattle.fx_base.specs.Ends.{Ends}
use Rattle.fx_base.specs.Units.{millionths, of_span, natural, ticks}
use Rattle.photo_table.specs.Table.{Table, plane, upper, bilinear}
use Rattle.photo_table.specs.Exact.{value_in}
use Rattle.photo_table.specs.Kept.{IsGreatest}
use Rattle.zonal_flux.specs.Zones.{constant, product}
use Rattle.zonal_flux.specs.declared.fluxes.Flux.{Flux}

-- ---- the mean intensity of a zone

-- the gamma in the middle of zone k
abbrev pub middle : ℕ → Fraction
middle k = millionths (k * 5000000 + 2500000)

-- the intensity there in the plane of number i; after the last plane comes the first one a turn later
unfoldable pub in_plane : Table → ℕ → ℕ → Interval
in_plane t k i = bilinear t (millionths (plane t i)) (middle k)

-- half of what the turn from plane i to the next one is of a whole turn, in millionths of a degree by 720 degrees
unfoldable pub half_sector : Table → ℕ → Fraction
half_sector t i = ratio (plane t (i + 1) - plane t i) 720000000

-- what the sector between plane i and the next one adds to the mean: its part of the turn times the mean of the two
unfoldable pub part : Table → ℕ → ℕ → Interval
part t k i = record {
  lo = half_sector t i *ᶠ ((in_plane t k i).lo +ᶠ (in_plane t k (i + 1)).lo);
  hi = half_sector t i *ᶠ ((in_plane t k i).hi +ᶠ (in_plane t k (i + 1)).hi);
}

-- the mean intensity round the vertical in the middle of zone k
unfoldable pub mean : Table → ℕ → Interval
mean t k = sum_of (length t.planes) (part t k)

-- ---- the flux

-- the flux into zone k, with the zone's constant enclosed at depth n
unfoldable pub into_zone : ℕ → Table → ℕ → Interval
into_zone n t k = product (mean t k) (constant n k)

-- the flux into so many zones from the zone `first` on
unfoldable pub into_zones : ℕ → Table → ℕ → ℕ → Interval
into_zones n t first count = sum_of count (λ i. into_zone n t (first + i))

-- the flux downward, upward, and in all
abbrev pub down : ℕ → Table → Interval
down n t = into_zones n t 0 18

abbrev pub up : ℕ → Table → Interval
up n t = into_zones n t 18 18

unfoldable pub total : ℕ → Table → Interval
total n t = record { lo = (down n t).lo +ᶠ (up n t).lo; hi = (down n t).hi +ᶠ (up n t).hi }

-- ---- spans of it

-- t has the planes and gammas of p and as many intensities, and each of them lies in that of p
pub record LiesWithin (t p : Table) : Type 0 where
  pub planes : t.planes ≡ p.planes
  pub gammas : t.gammas ≡ p.gammas
  pub all_values : length t.values ≡ length p.values
  pub in_order : (k : ℕ) → InOrder (value_in t k)
  pub values : (k : ℕ) → LiesIn (value_in t k) (value_in p k)

-- a greatest intensity, in ticks, by 2^20, and a thousandth of a lumen
abbrev pub allowance : ℕ → Fraction
allowance greatest = (ticks greatest *ᶠ ratio 1 1048576) +ᶠ ratio 1 1000

-- a span of one of these fluxes: it meets that of every table within p at every depth, lies within that of p itself moved outward
-- by the allowance, and its ends lie in order from 0 to at most 2^90 ticks
pub record IsFlux (flux : ℕ → Table → Interval) (p : Table) (span : Ends) : Type 0 where
  pub meets : (t : Table) → LiesWithin t p → (n : ℕ) → Meets (of_span span) (flux n t)
  pub near : (n m : ℕ) → IsGreatest upper p (ticks m) → LiesIn (of_span span) (outward (allowance m) (flux n p))
  pub low : pos 0 ≤ℤ span.lo
  pub in_order : span.lo ≤ℤ span.hi
  pub high : natural span.hi ≤ 2 ^ 90

-- all three are spans of the fluxes of p
pub record IsFluxOf (p : Table) (flux : Flux) : Type 0 where
  pub down_is : IsFlux down p flux.down
  pub up_is : IsFlux up p flux.up
  pub total_is : IsFlux total p flux.total
