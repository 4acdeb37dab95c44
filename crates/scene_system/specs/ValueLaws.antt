-- What holds of the values at the task points of a room, and of their average.
use Rattle.std.specs.Prelude.{ℕ, ◌<◌, ◌≡◌, false, List}
use Rattle.fx_base.specs.Interval.{InOrder}
use Rattle.fx_base.specs.declared.Tick.{Tick}
use Rattle.interval_system.specs.System.{NoneHeavy}
use Rattle.interval_system.specs.Values.{Grid, open_count, average}
use Rattle.radiosity_solve.specs.Bounds.{IsLowerAnswer, IsUpperAnswer, IsInOrder}
use Rattle.room_layout.specs.Accepted.{IsAccepted}
use Rattle.room_layout.specs.declared.room.Room.{Room}
use Rattle.photo_table.specs.Table.{Table}
use Rattle.scene_system.specs.Assembled.{Numbers, IsSceneOf, IsWellFormed}
use Rattle.scene_system.specs.Tables.{AreExactTables}
use Rattle.scene_system.specs.PointValues.{AreValuesOf, ArePoints}
use Rattle.scene_system.specs.declared.value.PointValue.{PointValue}

-- the values of a scene of a room, with bounds of the light of its patches, are those of the room: they meet the exact values at each
-- depth from 2, and are near the loose ones
abbrev pub ValuesArePoints : Type 0
ValuesArePoints = (tables : List Table) (room : Room) (s : Numbers) (lower upper : List Tick) (values : List PointValue) → IsAccepted room → AreExactTables room tables → IsWellFormed s → IsSceneOf tables room s
    → NoneHeavy s.system.rows → IsLowerAnswer s.system lower → IsUpperAnswer s.system upper → IsInOrder s.system lower upper
    → AreValuesOf s lower upper values → ArePoints tables room values

-- where the values at the points that aren't covered are in order, and there is one, the average is
abbrev pub AverageIsInOrder : Type 0
AverageIsInOrder = (s : Grid) → 0 < open_count s.covered s.points → ((g : ℕ) → g < s.points → s.covered g ≡ false → InOrder (s.value g)) → InOrder (average s)
