-- What the code's steps to a flux are.
use Rattle.std.specs.Prelude.{ℕ, ◌+◌, ◌-◌, ◌*◌, ◌/◌, ◌≤◌, ◌≤ℤ◌, ◌+ℤ◌, pos}
use Rattle.fx_base.specs.Fraction.{Fraction, ◌≤ᶠ◌, ◌+ᶠ◌, ratio, sum_to}
use Rattle.fx_base.specs.Interval.{Interval, Meets}
use Rattle.fx_base.specs.Ends.{Ends}
use Rattle.fx_base.specs.Units.{of_span, natural, ticks}
use Rattle.series_enclose.specs.Series.{pi}
use Rattle.photo_table.specs.Table.{Table, plane, upper}
use Rattle.photo_table.specs.Kept.{IsGreatest}
use Rattle.zonal_flux.specs.Zones.{cosine_at, twice}
use Rattle.zonal_flux.specs.Fluxes.{in_plane, part, mean, into_zones, LiesWithin}

-- ---- constants

-- a span of the cosine of so many degrees
pub record IsCosineAt (degrees : ℕ) (span : Ends) : Type 0 where
  pub meets : (n : ℕ) → Meets (of_span span) (cosine_at n degrees)
  pub narrow : span.hi ≤ℤ (span.lo +ℤ pos 16)
  pub low : pos 0 ≤ℤ span.lo
  pub high : natural span.hi ≤ 68719476752

-- a span of twice pi, which is at most 8
pub record IsTwoPi (span : Ends) : Type 0 where
  pub meets : (n : ℕ) → Meets (of_span span) (twice (pi n))
  pub narrow : span.hi ≤ℤ (span.lo +ℤ pos 2)
  pub low : pos 0 ≤ℤ span.lo
  pub in_order : span.lo ≤ℤ span.hi
  pub low_most : natural span.lo ≤ 549755813888
  pub high_most : natural span.hi ≤ 549755813890

-- ---- means

-- an intensity of the table p, from `lo` to `hi`, rounded outward by at most so many ticks: its ends are in order, and it is at most
-- 10,000,000 candela and a tick, and at most a tick above the greatest intensity
pub record IsRounded (p : Table) (most : ℕ) (lo hi : Fraction) (span : Ends) : Type 0 where
  pub low : ticks (natural span.lo) ≤ᶠ lo
  pub low_near : lo ≤ᶠ ticks (natural span.lo + most)
  pub high : hi ≤ᶠ ticks (natural span.hi)
  pub high_near : ticks (natural span.hi) ≤ᶠ (hi +ᶠ ticks most)
  pub not_negative : pos 0 ≤ℤ span.lo
  pub in_order : span.lo ≤ℤ span.hi
  pub bright : natural span.hi ≤ 687194767360000001
  pub below_the_greatest : (m : ℕ) → IsGreatest upper p (ticks m) → natural span.hi ≤ m + 1

-- the intensity of plane i in the middle of zone k
abbrev pub IsInPlane : Table → ℕ → ℕ → Ends → Type 0
IsInPlane p k i span = IsRounded p 1 (in_plane p k i).lo (in_plane p k i).hi span

-- the mean in the middle of zone k
abbrev pub IsMean : Table → ℕ → Ends → Type 0
IsMean p k span = IsRounded p 2 (mean p k).lo (mean p k).hi span

-- so many ticks times millionths of a degree, by twice a turn
abbrev pub spread : ℕ → Fraction
spread x = ratio x 49478023249920000000

-- what sectors of p that are w millionths of a degree wide add to a mean, from `lo` to `hi`, before it is divided by twice a turn:
-- rounded outward by at most two ticks times w, with its ends in order, and no brighter than two intensities times w
pub record IsSpread (p : Table) (w : ℕ) (lo hi : Fraction) (span : Ends) : Type 0 where
  pub low : spread (natural span.lo) ≤ᶠ lo
  pub low_near : lo ≤ᶠ spread (natural span.lo + 2 * w)
  pub high : hi ≤ᶠ spread (natural span.hi)
  pub high_near : spread (natural span.hi) ≤ᶠ (hi +ᶠ spread (2 * w))
  pub not_negative : pos 0 ≤ℤ span.lo
  pub in_order : span.lo ≤ℤ span.hi
  pub bright : natural span.hi ≤ 1374389534720000002 * w
  pub below_the_greatest : (m : ℕ) → IsGreatest upper p (ticks m) → natural span.hi ≤ (2 * (m + 1)) * w

-- the sector between plane i and the next one
abbrev pub IsSector : Table → ℕ → ℕ → Ends → Type 0
IsSector p k i span = IsSpread p (plane p (i + 1) - plane p i) (part p k i).lo (part p k i).hi span

-- the sectors before plane i
abbrev pub AreSectors : Table → ℕ → ℕ → Ends → Type 0
AreSectors p k i span = IsSpread p (plane p i - plane p 0) (sum_to i (λ j. (part p k j).lo)) (sum_to i (λ j. (part p k j).hi)) span

-- ---- fluxes

-- how far, in ticks, rounding and the width of its constant move the flux of one zone outward
abbrev pub slack : ℕ → ℕ
slack greatest = (greatest + 1) / 67108864 + 100

-- a span of the flux into so many zones of p, in ticks: it meets that of each table within p, is moved outward by at most so much for
-- each zone, and its ends lie in order from 0
pub record IsLoose (p : Table) (flux : ℕ → Table → Interval) (zones : ℕ) (span : Ends) : Type 0 where
  pub meets : (t : Table) → LiesWithin t p → (n : ℕ) → Meets (of_span span) (flux n t)
  pub low_near : (n m : ℕ) → IsGreatest upper p (ticks m) → (flux n p).lo ≤ᶠ ticks (natural span.lo + zones * slack m)
  pub high_near : (n m : ℕ) → IsGreatest upper p (ticks m) → ticks (natural span.hi) ≤ᶠ ((flux n p).hi +ᶠ ticks (zones * slack m))
  pub not_negative : pos 0 ≤ℤ span.lo
  pub in_order : span.lo ≤ℤ span.hi
  pub high : natural span.hi ≤ zones * 18446744073709551616

-- the flux into so many zones from the zone `first` on
abbrev pub IsSoFar : Table → ℕ → ℕ → Ends → Type 0
IsSoFar p first count span = IsLoose p (λ n t. into_zones n t first count) count span
