-- Why a group of a room that is within its limits has no average: a row of the room may be heavy.
use Rattle.std.proofs.Common.{ℕ, ◌≡◌, ◌<◌, ◌≤◌, Bool, List, arith, refl, subst, sym}
use Rattle.patch_mesh.specs.Patches.{patches, tilings}
use Rattle.patch_mesh.specs.Surfaces.{surfaces}
use Rattle.photo_table.specs.Table.{Table}
use Rattle.room_layout.specs.Kept.{kept_room}
use Rattle.room_layout.specs.declared.room.Lamp.{Lamp}
use Rattle.room_layout.specs.declared.room.Room.{Room}
use Rattle.scene_system.specs.Causes.{greatest_total, IsCause, IsWithinLimits}
use Rattle.scene_system.specs.Laws.{TotalIsOfTables}
use Rattle.scene_system.specs.RowSums.{MayBeHeavy}
use Rattle.scene_system.specs.Tables.{AreTablesOf}
use Rattle.scene_system.specs.declared.fault.SceneFault.{SceneFault}
use Rattle.scene_system.specs.declared.fault.SceneFault.TheVariants.{TotalIntensity, TooManyPatches, NoTaskPoint, Memory}
use Rattle.sight_line.specs.Sight.{is_clear}
use Rattle.dimming_plan.specs.Dimming.{IsHeavyCause}
use Rattle.dimming_plan.specs.GroupAverages.{IsGroupCause}
use Rattle.dimming_plan.specs.SameGeometry.{with_lamps, LimitsAreKept}
use Rattle.dimming_plan.specs.declared.groups.GroupFault.{GroupFault}
use Rattle.dimming_plan.specs.declared.groups.GroupFault.TheVariants as group

-- a row that is heavy with other lamps is so with the room's own
heavy_with_any : (room : Room) (lamps : List Lamp) (row thousandths : ℕ) → MayBeHeavy (with_lamps room lamps) row thousandths → MayBeHeavy room row thousandths
unfolding patches tilings surfaces is_clear
heavy_with_any room lamps row thousandths h = record {
  in_room = h.in_room;
  heavy = h.heavy;
  none_before = h.none_before;
  sum_above = h.sum_above;
  sum_below = h.sum_below;
}

-- by the program's tables a room is within the limits that it is within by the exact ones
within_by : (photos tables : List Table) (room : Room) → TotalIsOfTables → AreTablesOf photos tables → IsWithinLimits tables room → IsWithinLimits photos room
within_by photos tables room law are within = record {
  dim = subst (λ n. n ≤ greatest_total) (sym (law photos tables room are)) within.dim;
  few = within.few;
  some_open = within.some_open;
}

-- a room within its limits is refused for want of memory alone
no_other_cause : (photos : List Table) (room : Room) (fault : SceneFault) → IsWithinLimits photos room → IsCause photos room fault → fault ≡ Memory
no_other_cause photos room TotalIntensity within cause = absurd (omega (arith, within.dim, cause))
no_other_cause photos room (TooManyPatches count) within (dim, many, is) = absurd (omega (arith, within.few, many))
no_other_cause photos room NoTaskPoint within (dim, few, none) = absurd (omega (arith, within.some_open, none))
no_other_cause photos room Memory within cause = refl

pub room_cause : (photos tables : List Table) (room : Room) (keep : List Bool) (fault : GroupFault) → TotalIsOfTables → LimitsAreKept → AreTablesOf photos tables
    → IsWithinLimits tables room → IsGroupCause photos (kept_room keep room) fault → IsHeavyCause room fault
room_cause photos tables room keep (group.Scene fault) law kept are within (cause, other) =
    other (no_other_cause photos (kept_room keep room) fault (kept photos room keep (within_by photos tables room law are within)) cause)
room_cause photos tables room keep (group.Rows heavy) law kept are within (limits, cause) = heavy_with_any room _ heavy.row _ cause
room_cause photos tables room keep group.Memory law kept are within cause = tt
