-- The values at the task points of a scene in ticks: what the program sums, and what they are to the room.
use Rattle.std.specs.Prelude.{ℕ, ◌≡◌, ◌+◌, ◌*◌, ◌^◌, ◌<◌, ◌≤◌, ◌≤ℤ◌, pos, true, false, List, length, slice_index_or}
use Rattle.fx_base.specs.Interval.{Meets, LiesIn, InOrder, outward}
use Rattle.fx_base.specs.Units.{natural, ticks, of_span}
use Rattle.fx_base.specs.declared.Tick.{Tick}
use Rattle.interval_system.specs.Radiosity.{AreRowsBelowOne}
use Rattle.interval_system.specs.System.{no_light}
use Rattle.interval_system.specs.Whole.{total}
use Rattle.interval_system.specs.Ticks.{tick_at}
use Rattle.fx_base.specs.Rounded.{down_to, up_to}
use Rattle.room_layout.specs.declared.room.Room.{Room}
use Rattle.photo_table.specs.Table.{Table}
use Rattle.scene_system.specs.Assembled.{Numbers, point_weight, point_light}
use Rattle.scene_system.specs.Scene.{task_point_of, no_task_point, radiosity, loose_radiosity}
use Rattle.scene_system.specs.RoomValues.{ForExactValues, ForLooseValues}
use Rattle.scene_system.specs.declared.value.PointValue.{PointValue}

-- ---- the sums of the program: the light of the lamps and what the patches send there, each product rounded outward

abbrev pub lower_value : Numbers → List Tick → ℕ → ℕ
lower_value s lower g = natural (point_light s g).lo + total (length s.patches) (λ j. down_to (2 ^ 36) ((point_weight s g j).lo * tick_at lower j))

abbrev pub upper_value : Numbers → List Tick → ℕ → ℕ
upper_value s upper g = natural (point_light s g).hi + total (length s.patches) (λ j. up_to (2 ^ 36) ((point_weight s g j).hi * tick_at upper j))

-- the value at point g of a scene, whose patches have a light between these bounds
pub record IsValueOf (s : Numbers) (lower upper : List Tick) (g : ℕ) (v : PointValue) : Type 0 where
  pub covered_is : v.covered ≡ (slice_index_or s.points g no_task_point).covered
  pub nothing : v.covered ≡ true → v.value ≡ no_light
  pub low : v.covered ≡ false → v.value.lo ≡ pos (lower_value s lower g)
  pub high : v.covered ≡ false → v.value.hi ≡ pos (upper_value s upper g)

pub record AreValuesOf (s : Numbers) (lower upper : List Tick) (values : List PointValue) : Type 0 where
  pub count : length values ≡ length s.points
  pub each : (g : ℕ) (d : PointValue) → g < length values → IsValueOf s lower upper g (slice_index_or values g d)

-- ---- what they are to the room

-- 2,048 ticks: one for each product that is rounded
abbrev pub most_rounding : Rattle.fx_base.specs.Fraction.Fraction
most_rounding = ticks 2048

-- the value at point g: it meets the exact value at each depth from 2, and lies near the loose one there
pub record IsPoint (tables : List Table) (room : Room) (g : ℕ) (v : PointValue) : Type 0 where
  pub covered_is : v.covered ≡ (task_point_of room g).covered
  pub meets : v.covered ≡ false → ForExactValues tables room (λ x. Meets (of_span v.value) (x.value g))
  pub near : v.covered ≡ false → ForLooseValues tables room (λ x. LiesIn (of_span v.value) (outward most_rounding (x.value g)))
  pub low : pos 0 ≤ℤ v.value.lo
  pub order : v.value.lo ≤ℤ v.value.hi
  pub high : natural v.value.hi ≤ 2 ^ 102

-- the values at all points of a room, whose equations have one solution at each depth from 2, exact and loose
pub record ArePoints (tables : List Table) (room : Room) (values : List PointValue) : Type 0 where
  pub count : length values ≡ room.task.nx * room.task.ny
  pub each : (g : ℕ) (d : PointValue) → g < length values → IsPoint tables room g (slice_index_or values g d)
  pub rows : (n : ℕ) → 2 ≤ n → AreRowsBelowOne (radiosity n tables room).patches
  pub loose_rows : (n : ℕ) → 2 ≤ n → AreRowsBelowOne (loose_radiosity n tables room).patches
  pub order : (g : ℕ) → g < length values → ForExactValues tables room (λ x. InOrder (x.value g))
  pub loose_order : (g : ℕ) → g < length values → ForLooseValues tables room (λ x. InOrder (x.value g))
