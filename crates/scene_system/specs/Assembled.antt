-- What the numbers of an assembled scene are to its room.
use Rattle.std.specs.Prelude.{ℕ, ◌≡◌, ◌*◌, ◌<◌, ◌≤◌, Bool, not, List, [], All, length, count_by, slice_index_or}
use Rattle.fx_base.specs.Ends.{Ends}
use Rattle.fx_base.specs.Interval.{Meets, LiesIn}
use Rattle.fx_base.specs.Units.{of_span, of_weight}
use Rattle.fx_base.specs.declared.Weight.{Weight}
use Rattle.room_layout.specs.Place.{Place}
use Rattle.room_layout.specs.declared.geometry.Face.{Face}
use Rattle.room_layout.specs.declared.geometry.Face.TheVariants.{Up}
use Rattle.room_layout.specs.declared.room.Room.{Room}
use Rattle.photo_table.specs.Table.{Table}
use Rattle.patch_mesh.specs.Patches.{patches}
use Rattle.patch_mesh.specs.TaskPoints.{task_points}
use Rattle.patch_mesh.specs.declared.patch.Patch.{Patch}
use Rattle.patch_mesh.specs.declared.patch.TaskPoint.{TaskPoint}
use Rattle.form_factor.specs.Weights.{IsCoefficient}
use Rattle.interval_system.specs.System.{System, IsSystem, IsDirectLight, IsRow, no_weight, no_light, weight_at, direct_at}
use Rattle.sight_line.specs.Sight.{is_clear}
use Rattle.scene_system.specs.Light.{direct_light, loose_direct_light}
use Rattle.scene_system.specs.Scene.{patch_count, patch_of, patch_place, patch_face, task_point_place, loose_coefficient_at}
use Rattle.scene_system.specs.declared.scene.Scene.{Scene}

-- ---- the numbers of a scene

pub record Numbers : Type 0 where
  pub patches : List Patch
  pub points : List TaskPoint
  pub system : System
  pub point_rows : List (List Weight)
  pub point_direct : List Ends

abbrev pub numbers : Scene → Numbers
numbers s = record { patches = s.patches.items; points = s.points.items; system = s.system; point_rows = s.point_rows.items; point_direct = s.point_direct.items }

-- the weight with which patch j lights task point g
abbrev pub point_weight : Numbers → ℕ → ℕ → Weight
point_weight s g j = slice_index_or (slice_index_or s.point_rows g []) j no_weight

abbrev pub point_light : Numbers → ℕ → Ends
point_light s g = slice_index_or s.point_direct g no_light

abbrev pub is_open_point : TaskPoint → Bool
is_open_point p = not p.covered

-- how many task points no box covers
abbrev pub open_points : List TaskPoint → ℕ
open_points points = count_by is_open_point points

-- ---- a scene whose parts fit one another

pub record IsWellFormed (s : Numbers) : Type 0 where
  pub few_patches : length s.patches ≤ 2048
  pub system : IsSystem s.system
  pub size : length s.system.rows ≡ length s.patches
  pub few_points : length s.points ≤ 1024
  pub rows : length s.point_rows ≡ length s.points
  pub row_sizes : All (λ row. length row ≡ length s.patches) s.point_rows
  pub weights : All IsRow s.point_rows
  pub lights : length s.point_direct ≡ length s.points
  pub each_light : All IsDirectLight s.point_direct
  pub some_open : 0 < open_points s.points

-- ---- a scene of a room

-- a span meets the direct light at a place with this face at every depth, and lies in the loose form of it; `tables` are the exact
-- tables of the room's files
pub record IsDirect (tables : List Table) (room : Room) (p : Place) (face : Face) (d : Ends) : Type 0 where
  pub meets : (n : ℕ) → Meets (of_span d) (direct_light n tables room p face)
  pub near : (n : ℕ) → LiesIn (of_span d) (loose_direct_light n tables room p face)

-- a weight is that with which patch j lights a place with this face
abbrev pub IsWeightAt : Room → Place → Face → ℕ → Weight → Type 0
IsWeightAt room p face j w = IsCoefficient p face (patch_of room j) (is_clear room p (patch_place room j)) w

-- the patches and task points are those of the room, and the weights meet the coefficients at every depth
pub record HasWeightsOf (room : Room) (s : Numbers) : Type 0 where
  pub patches_are : s.patches ≡ patches room
  pub points_are : s.points ≡ task_points room
  pub point_count : length s.points ≡ room.task.nx * room.task.ny
  pub patch_weights : (i j : ℕ) → i < patch_count room → j < patch_count room → IsWeightAt room (patch_place room i) (patch_face room i) j (weight_at s.system i j)
  pub point_weights : (g j : ℕ) → g < length s.points → j < patch_count room → IsWeightAt room (task_point_place room g) Up j (point_weight s g j)

-- and the spans meet the direct light at every depth, and are near it
pub record IsSceneOf (tables : List Table) (room : Room) (s : Numbers) : Type 0 where
  pub weights : HasWeightsOf room s
  pub lights : (i : ℕ) → i < patch_count room → IsDirect tables room (patch_place room i) (patch_face room i) (direct_at s.system i)
  pub point_lights : (g : ℕ) → g < length s.points → IsDirect tables room (task_point_place room g) Up (point_light s g)

-- the weights lie in the loose coefficients, at every depth
pub record HasNearWeights (room : Room) (s : Numbers) : Type 0 where
  pub weights : (n i j : ℕ) → i < patch_count room → j < patch_count room
      → LiesIn (of_weight (weight_at s.system i j)) (loose_coefficient_at n room (patch_place room i) (patch_face room i) j)
  pub point_weights : (n g j : ℕ) → g < length s.points → j < patch_count room
      → LiesIn (of_weight (point_weight s g j)) (loose_coefficient_at n room (task_point_place room g) Up j)
