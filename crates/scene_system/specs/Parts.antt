-- Rows of weights and lists of direct light, as they are for the first so many patches or places.
use Rattle.std.specs.Prelude.{ℕ, ◌≡◌, ◌*◌, ◌<◌, ◌≤◌, List, [], All, length, slice_index_or}
use Rattle.fx_base.specs.Ends.{Ends}
use Rattle.fx_base.specs.declared.Weight.{Weight}
use Rattle.room_layout.specs.Place.{Place}
use Rattle.room_layout.specs.declared.geometry.Face.{Face}
use Rattle.room_layout.specs.declared.room.Room.{Room}
use Rattle.photo_table.specs.Table.{Table}
use Rattle.patch_mesh.specs.Bounds.{IsPatchIn, IsTaskPointIn, largest_room}
use Rattle.patch_mesh.specs.Patches.{patches}
use Rattle.patch_mesh.specs.TaskPoints.{task_points}
use Rattle.patch_mesh.specs.declared.patch.Patch.{Patch}
use Rattle.patch_mesh.specs.declared.patch.TaskPoint.{TaskPoint}
use Rattle.interval_system.specs.System.{System, IsDirectLight, IsSystem, IsWeight, no_weight, no_light}
use Rattle.scene_system.specs.Assembled.{IsDirect, IsWeightAt}
use Rattle.scene_system.specs.Scene.{patch_count, patch_face, patch_place}
use Rattle.scene_system.specs.Tables.{AreTablesOf}

-- a list is that of the room's patches
pub record ArePatchesOf (room : Room) (list : List Patch) : Type 0 where
  pub are : list ≡ patches room
  pub few : length list ≤ 2048
  pub inside : All (IsPatchIn room.size) list
  pub within : All (IsPatchIn largest_room) list

-- a list is that of the room's task points
pub record AreTaskPointsOf (room : Room) (list : List TaskPoint) : Type 0 where
  pub are : list ≡ task_points room
  pub count : length list ≡ room.task.nx * room.task.ny
  pub inside : All (IsTaskPointIn room.size) list
  pub within : All (IsTaskPointIn largest_room) list

-- a row of the weights with which the first patches light a place with this face
pub record IsRowOfFirst (room : Room) (p : Place) (face : Face) (count : ℕ) (row : List Weight) : Type 0 where
  pub size : length row ≡ count
  pub each : All IsWeight row
  pub weights : (j : ℕ) → j < count → IsWeightAt room p face j (slice_index_or row j no_weight)

-- the row of all patches there
abbrev pub IsRowAt : Room → Place → Face → List Weight → Type 0
IsRowAt room p face row = IsRowOfFirst room p face (patch_count room) row

-- the rows for the first places with these faces
pub record AreRowsAt (room : Room) (place : ℕ → Place) (face : ℕ → Face) (count : ℕ) (rows : List (List Weight)) : Type 0 where
  pub size : length rows ≡ count
  pub each : (i : ℕ) → i < count → IsRowAt room (place i) (face i) (slice_index_or rows i [])

-- a span is the direct light there, whichever exact tables the kept ones are of
abbrev pub IsDirectFor : List Table → Room → Place → Face → Ends → Type 0
IsDirectFor photos room p face d = (tables : List Table) → AreTablesOf photos tables → IsDirect tables room p face d

-- the direct light of the first places with these faces
pub record AreLightsAt (photos : List Table) (room : Room) (place : ℕ → Place) (face : ℕ → Face) (count : ℕ) (lights : List Ends) : Type 0 where
  pub size : length lights ≡ count
  pub direct : (i : ℕ) → i < count → IsDirectFor photos room (place i) (face i) (slice_index_or lights i no_light)
  pub each : (i : ℕ) → i < count → IsDirectLight (slice_index_or lights i no_light)

-- a system whose rows are those of the room's patches, and whose light is theirs
pub record HasEquations (photos : List Table) (room : Room) (s : System) : Type 0 where
  pub system : IsSystem s
  pub rows : AreRowsAt room (patch_place room) (patch_face room) (patch_count room) s.rows
  pub lights : AreLightsAt photos room (patch_place room) (patch_face room) (patch_count room) s.direct
