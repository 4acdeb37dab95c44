-- One group of a room as the program has it.
use Rattle.std.specs.Prelude.{ℕ, ◌≡◌, true, false, pos, List}
use Rattle.photo_table.specs.Table.{Table}
use Rattle.room_layout.specs.declared.room.Room.{Room}
use Rattle.dimming_plan.specs.Dimming.{group_room, has_lamp}
use Rattle.dimming_plan.specs.GroupAverages.{IsGroupAverage}
use Rattle.dimming_plan.specs.Members.{group_watts}
use Rattle.dimming_plan.specs.declared.entry.PlanLamp.{PlanLamp}
use Rattle.dimming_plan.specs.declared.power.Group.{Group}

-- the watts of its lamps, and the average of the room with just these; where it has none, no light
pub record IsGroupOf (tables : List Table) (room : Room) (plan : List PlanLamp) (g : ℕ) (group : Group) : Type 0 where
  pub watts : group.watts ≡ group_watts g plan
  pub some : has_lamp plan g ≡ true → IsGroupAverage tables (group_room room plan g) group.average
  pub none : has_lamp plan g ≡ false → (group.average.lo ≡ pos 0) × (group.average.hi ≡ pos 0)
