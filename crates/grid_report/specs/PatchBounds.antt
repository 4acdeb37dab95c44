-- Bounds of the light of a room's patches, and claims on it, against the light that solves its radiosity equations. `tables` are the
-- exact tables of its files.
use Rattle.std.specs.Prelude.{ℕ, ◌<◌, ◌≤◌, ◌≡◌, ◌⊎◌, List, length}
use Rattle.fx_base.specs.Fraction.{Fraction, ◌<ᶠ◌, ◌+ᶠ◌}
use Rattle.fx_base.specs.Interval.{Interval, Meets, LiesIn, outward}
use Rattle.fx_base.specs.Units.{ticks, ticks_between}
use Rattle.fx_base.specs.declared.Tick.{Tick}
use Rattle.interval_system.specs.Equations.{value_by}
use Rattle.interval_system.specs.Radiosity.{Enclosures, Light, IsLightOf}
use Rattle.interval_system.specs.Ticks.{tick_at}
use Rattle.radiosity_solve.specs.Bounds.{ten_thousandth}
use Rattle.room_layout.specs.declared.room.Room.{Room}
use Rattle.photo_table.specs.Table.{Table}
use Rattle.scene_system.specs.Scene.{patch_count, radiosity, loose_radiosity}

-- so it is of the light at each depth from 2, whichever light solves the equations there (and there is one alone)
abbrev pub ForExactLight : List Table → Room → (Light → Type 0) → Type 0
ForExactLight tables room P = (n : ℕ) → 2 ≤ n → (light : Light) → IsLightOf (radiosity n tables room).patches light → P light

-- the same of the light that solves the loose equations
abbrev pub ForLooseLight : List Table → Room → (Light → Type 0) → Type 0
ForLooseLight tables room P = (n : ℕ) → 2 ≤ n → (light : Light) → IsLightOf (loose_radiosity n tables room).patches light → P light

-- ---- at patch i

-- the light there, from where every number is at its lower end to where every number is at its upper end
abbrev pub light_at : Light → ℕ → Interval
light_at light i = record { lo = light.lower i; hi = light.upper i }

-- the bounds there
abbrev pub bounds_at : List Tick → List Tick → ℕ → Interval
bounds_at lower upper i = ticks_between (tick_at lower i) (tick_at upper i)

-- ---- bounds of all patches

-- one lower and one upper bound for each patch, which meet its light at each depth from 2
pub record HoldLight (tables : List Table) (room : Room) (lower upper : List Tick) : Type 0 where
  pub lower_size : length lower ≡ patch_count room
  pub upper_size : length upper ≡ patch_count room
  pub each : (i : ℕ) → i < patch_count room → ForExactLight tables room (λ light. Meets (bounds_at lower upper i) (light_at light i))

-- no bound is more than 1/10,000 lux further out than the loose light
pub record AreNearLight (tables : List Table) (room : Room) (lower upper : List Tick) : Type 0 where
  pub each : (i : ℕ) → i < patch_count room → ForLooseLight tables room (λ light. LiesIn (bounds_at lower upper i) (outward ten_thousandth (light_at light i)))

-- ---- claims that aren't shown

-- what patches of this light give patch i, unrounded: by the lower ends, and by the upper ends
abbrev pub low_sum : Enclosures → List Tick → ℕ → Fraction
low_sum s lower i = value_by s.size (s.direct i).lo (λ j. (s.coefficient i j).lo) (λ j. ticks (tick_at lower j))

abbrev pub high_sum : Enclosures → List Tick → ℕ → Fraction
high_sum s upper i = value_by s.size (s.direct i).hi (λ j. (s.coefficient i j).hi) (λ j. ticks (tick_at upper j))

-- at patch i a bound of the claim is past such a sum, or short of it by less than one tick for each patch
abbrev pub HasLittleMargin : Enclosures → List Tick → List Tick → ℕ → Type 0
HasLittleMargin s lower upper i =
    (low_sum s lower i <ᶠ (ticks (tick_at lower i) +ᶠ ticks s.size)) ⊎ (ticks (tick_at upper i) <ᶠ (high_sum s upper i +ᶠ ticks s.size))

-- the row is one of the room's patches, at which that is so by the loose ends of each depth from 2
pub record MayBeUnshown (tables : List Table) (room : Room) (lower upper : List Tick) (row : ℕ) : Type 0 where
  pub in_room : row < patch_count room
  pub cause : (n : ℕ) → 2 ≤ n → HasLittleMargin (loose_radiosity n tables room).patches lower upper row
