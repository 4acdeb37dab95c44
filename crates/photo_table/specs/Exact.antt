-- What a kept table says of its intensities, and exact tables rounded to ticks.
use Rattle.std.specs.Prelude.{ℕ, ◌+◌, ◌*◌, ◌/◌, ◌<◌, ◌≡◌, length, map, slice_index_or}
use Rattle.std.specs.Int.{div_ceil}
use Rattle.fx_base.specs.Fraction.{Fraction, ◌≤ᶠ◌, ◌<ᶠ◌, ◌≈ᶠ◌, ◌+ᶠ◌, whole}
use Rattle.fx_base.specs.Interval.{Interval, InOrder, exact}
use Rattle.fx_base.specs.Units.{ticks}
use Rattle.photo_table.specs.Table.{Table, IsTable}
use Rattle.photo_table.specs.Laws.{StandsFor}

-- the intensity of number k, plane by plane, and no light past the last one
abbrev pub value_in : Table → ℕ → Interval
value_in t k = slice_index_or t.values k (exact (whole 0))

-- a table as a `PhotoTable` keeps it: the planes rise from 0 to below 360 degrees, the gammas within 0 to 180, and each intensity
-- is in order and at most 10,000,000 candela
pub record IsIntensityTable (t : Table) : Type 0 where
  pub is_table : IsTable t
  pub planes_below : (i : ℕ) → i < length t.planes → slice_index_or t.planes i 0 < 360000000
  pub in_order : (k : ℕ) → InOrder (value_in t k)
  pub bright : (k : ℕ) → (value_in t k).hi ≤ᶠ whole 10000000

-- ---- rounded to ticks

-- how many ticks of 2^-36 are not above x, and the least number of them that is not below it
abbrev pub ticks_below : Fraction → ℕ
ticks_below x = x.num * 68719476736 / x.den

abbrev pub ticks_above : Fraction → ℕ
ticks_above x = div_ceil (x.num * 68719476736) x.den

-- rounded down and up to a tick
abbrev pub rounded : Interval → Interval
rounded i = record { lo = ticks (ticks_below i.lo); hi = ticks (ticks_above i.hi) }

-- both ends of each intensity are the same number
pub record IsExact (t : Table) : Type 0 where
  pub each : (k : ℕ) → (value_in t k).lo ≈ᶠ (value_in t k).hi

-- p has the planes and gammas of the exact table t, and its intensities rounded down and up to a tick
pub record IsRoundedOf (p t : Table) : Type 0 where
  pub planes : p.planes ≡ t.planes
  pub gammas : p.gammas ≡ t.gammas
  pub exact : IsExact t
  pub values : p.values ≡ map rounded t.values

-- no intensity is wider than a tick
pub record IsNarrow (t : Table) : Type 0 where
  pub each : (k : ℕ) → (value_in t k).hi ≤ᶠ ((value_in t k).lo +ᶠ ticks 1)

-- ---- laws

-- so many ticks are at most x, and one more is beyond it
pub record IsTickBelow (x : Fraction) (n : ℕ) : Type 0 where
  pub below : ticks n ≤ᶠ x
  pub next : x <ᶠ ticks (n + 1)

-- so many ticks are at least x, and fewer are not
pub record IsTickAbove (x : Fraction) (n : ℕ) : Type 0 where
  pub above : x ≤ᶠ ticks n
  pub next : (m : ℕ) → m < n → ticks m <ᶠ x

-- rounding goes to the next tick on either side
abbrev pub RoundsToNextTick : Type 0
RoundsToNextTick = (x : Fraction) → IsTickBelow x (ticks_below x) × IsTickAbove x (ticks_above x)

-- a rounded table is one that the laws of hulls speak of
abbrev pub RoundedStands : Type 0
RoundedStands = (p t : Table) → IsRoundedOf p t → StandsFor p t

abbrev pub RoundedIsNarrow : Type 0
RoundedIsNarrow = (p t : Table) → IsRoundedOf p t → IsNarrow p
