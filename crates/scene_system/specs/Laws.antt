-- What holds of the enclosures of a room at every depth, and of the greatest intensities of its lamps.
use Rattle.std.specs.Prelude.{ℕ, ◌<◌, ◌≡◌, List}
use Rattle.fx_base.specs.Interval.{InOrder}
use Rattle.interval_system.specs.Radiosity.{Radiosity}
use Rattle.room_layout.specs.Accepted.{IsAccepted}
use Rattle.room_layout.specs.declared.room.Room.{Room}
use Rattle.photo_table.specs.Table.{Table}
use Rattle.scene_system.specs.Causes.{total_ticks}
use Rattle.scene_system.specs.Tables.{AreExactTables, AreTablesOf}
use Rattle.scene_system.specs.Scene.{radiosity, loose_radiosity}

-- no coefficient and no direct light has a lower end above its upper end
pub record HasEndsInOrder (s : Radiosity) : Type 0 where
  pub coefficient : (i j : ℕ) → i < s.patches.size → j < s.patches.size → InOrder (s.patches.coefficient i j)
  pub direct : (i : ℕ) → i < s.patches.size → InOrder (s.patches.direct i)
  pub point_coefficient : (g j : ℕ) → g < s.points → j < s.patches.size → InOrder (s.coefficient g j)
  pub point_direct : (g : ℕ) → g < s.points → InOrder (s.direct g)

-- at every depth, in the exact and in the loose form
abbrev pub RadiosityIsInOrder : Type 0
RadiosityIsInOrder = (n : ℕ) (tables : List Table) (room : Room) → IsAccepted room → AreExactTables room tables
    → HasEndsInOrder (radiosity n tables room) × HasEndsInOrder (loose_radiosity n tables room)

-- the greatest intensities of all lamps add up to as many ticks by the program's tables as by the exact ones
abbrev pub TotalIsOfTables : Type 0
TotalIsOfTables = (photos tables : List Table) (room : Room) → AreTablesOf photos tables → total_ticks photos room ≡ total_ticks tables room
