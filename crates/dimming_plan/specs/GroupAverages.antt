-- What the average of a group of lamps is to the room with just these lamps, and why a group has none.
use Rattle.std.specs.Prelude.{ℕ, ◌^◌, ◌≤◌, ◌≤ℤ◌, ◌≢◌, pos, List}
use Rattle.fx_base.specs.Ends.{Ends}
use Rattle.fx_base.specs.Interval.{InOrder, Meets, LiesIn, outward}
use Rattle.fx_base.specs.Units.{natural, of_span}
use Rattle.interval_system.specs.Radiosity.{AreRowsBelowOne}
use Rattle.interval_system.specs.Values.{average}
use Rattle.radiosity_solve.specs.Bounds.{ten_thousandth}
use Rattle.room_layout.specs.declared.room.Room.{Room}
use Rattle.photo_table.specs.Table.{Table}
use Rattle.scene_system.specs.Causes.{IsCause, IsWithinLimits}
use Rattle.scene_system.specs.RoomValues.{ForExactValues, ForLooseValues}
use Rattle.scene_system.specs.RowSums.{MayBeHeavy, in_thousandths}
use Rattle.scene_system.specs.Scene.{radiosity, loose_radiosity}
use Rattle.scene_system.specs.declared.fault.SceneFault.{SceneFault}
use Rattle.scene_system.specs.declared.fault.SceneFault.TheVariants as scene_fault
use Rattle.radiosity_solve.specs.declared.fault.SolveFault.{SolveFault}
use Rattle.radiosity_solve.specs.declared.fault.SolveFault.TheVariants as solve_fault
use Rattle.dimming_plan.specs.declared.groups.GroupFault.{GroupFault}
use Rattle.dimming_plan.specs.declared.groups.GroupFault.TheVariants.{Scene, Rows, Memory}

-- the ends of an average in ticks are in order, within 0 and 2^105
pub record IsInRange (r : Ends) : Type 0 where
  pub low : pos 0 ≤ℤ r.lo
  pub order : r.lo ≤ℤ r.hi
  pub high : natural r.hi ≤ 2 ^ 105

-- the span meets the average of the room at each depth from 2, and is no further out than the loose average moved by 1/10,000 lux;
-- `tables` are the exact tables of the room's files
pub record IsGroupAverage (tables : List Table) (room : Room) (r : Ends) : Type 0 where
  pub meets : ForExactValues tables room (λ x. Meets (of_span r) (average x))
  pub near : ForLooseValues tables room (λ x. LiesIn (of_span r) (outward ten_thousandth (average x)))
  -- in ticks it is within 0 and 2^105
  pub low : pos 0 ≤ℤ r.lo
  pub order : r.lo ≤ℤ r.hi
  pub high : natural r.hi ≤ 2 ^ 105
  -- there are such values, and no enclosure of their average is empty
  pub rows : (n : ℕ) → 2 ≤ n → AreRowsBelowOne (radiosity n tables room).patches
  pub loose_rows : (n : ℕ) → 2 ≤ n → AreRowsBelowOne (loose_radiosity n tables room).patches
  pub in_order : ForExactValues tables room (λ x. InOrder (average x))
  pub loose_in_order : ForLooseValues tables room (λ x. InOrder (average x))

-- ---- and why it has none

abbrev pub fault_of_scene : SceneFault → GroupFault
fault_of_scene scene_fault.TotalIntensity = Scene scene_fault.TotalIntensity
fault_of_scene (scene_fault.TooManyPatches count) = Scene (scene_fault.TooManyPatches count)
fault_of_scene scene_fault.NoTaskPoint = Scene scene_fault.NoTaskPoint
fault_of_scene scene_fault.Memory = Memory

abbrev pub fault_of_rows : SolveFault → GroupFault
fault_of_rows (solve_fault.RowSum heavy) = Rows heavy
fault_of_rows solve_fault.Memory = Memory

-- a row of the room may be heavy; want of memory says nothing
abbrev pub IsRowsCause : Room → SolveFault → Type 0
IsRowsCause room (solve_fault.RowSum heavy) = MayBeHeavy room heavy.row (in_thousandths heavy.upper)
IsRowsCause room solve_fault.Memory = Unit {0}

-- what each refusal says of the room with just these lamps; want of memory says nothing
abbrev pub IsGroupCause : List Table → Room → GroupFault → Type 0
IsGroupCause photos room (Scene fault) = IsCause photos room fault × (fault ≢ scene_fault.Memory)
IsGroupCause photos room (Rows heavy) = IsWithinLimits photos room × MayBeHeavy room heavy.row (in_thousandths heavy.upper)
IsGroupCause photos room Memory = Unit {0}
