-- The values at the task points of a room, exact and loose: those of the light that solves its radiosity
-- equations. `tables` are the exact tables of its files.
use Rattle.std.specs.Prelude.{ℕ, ◌≤◌, List}
use Rattle.interval_system.specs.Radiosity.{Light, IsLightOf, values}
use Rattle.interval_system.specs.Values.{Grid}
use Rattle.room_layout.specs.declared.room.Room.{Room}
use Rattle.photo_table.specs.Table.{Table}
use Rattle.scene_system.specs.Scene.{radiosity, loose_radiosity}

-- so it is of the values at each depth from 2, whichever light solves the equations there (and there is one alone)
abbrev pub ForExactValues : List Table → Room → (Grid → Type 0) → Type 0
ForExactValues tables room P = (n : ℕ) → 2 ≤ n → (light : Light) → IsLightOf (radiosity n tables room).patches light → P (values (radiosity n tables room) light)

-- the same of the loose values
abbrev pub ForLooseValues : List Table → Room → (Grid → Type 0) → Type 0
ForLooseValues tables room P = (n : ℕ) → 2 ≤ n → (light : Light) → IsLightOf (loose_radiosity n tables room).patches light → P (values (loose_radiosity n tables room) light)
