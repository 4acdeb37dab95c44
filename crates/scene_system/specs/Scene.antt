-- The radiosity equations of a room, enclosed at each depth n, and the loose form of them that says how far out the printed numbers
-- may lie.
use Rattle.std.specs.Prelude.{ℕ, ◌*◌, Bool, pos, true, List, length, slice_index_or}
use Rattle.fx_base.specs.Fraction.{Fraction, whole, ratio}
use Rattle.fx_base.specs.Interval.{Interval}
use Rattle.room_layout.specs.Place.{Place, place_of}
use Rattle.room_layout.specs.declared.geometry.Face.{Face}
use Rattle.room_layout.specs.declared.geometry.Face.TheVariants.{Up}
use Rattle.room_layout.specs.declared.room.Lamp.{Lamp}
use Rattle.room_layout.specs.declared.room.Room.{Room}
use Rattle.photo_table.specs.Table.{Table}
use Rattle.patch_mesh.specs.Patches.{patches}
use Rattle.patch_mesh.specs.TaskPoints.{task_points}
use Rattle.patch_mesh.specs.declared.patch.Patch.{Patch}
use Rattle.patch_mesh.specs.declared.patch.TaskPoint.{TaskPoint}
use Rattle.form_factor.specs.Coefficient.{coefficient, loose_coefficient}
use Rattle.interval_system.specs.Radiosity.{Radiosity}
use Rattle.sight_line.specs.Sight.{is_clear}
use Rattle.direct_light.specs.Shares.{share, loose_share}
use Rattle.scene_system.specs.Light.{light_of_room}

-- ---- patches and task points by their numbers

abbrev pub no_patch : Patch
no_patch = record { centre = record { x = pos 0; y = pos 0; z = pos 0 }; face = Up; area = 0; reflect = 0 }

abbrev pub no_task_point : TaskPoint
no_task_point = record { at = record { x = pos 0; y = pos 0; z = pos 0 }; covered = true }

abbrev pub patch_count : Room → ℕ
patch_count room = length (patches room)

abbrev pub patch_of : Room → ℕ → Patch
patch_of room i = slice_index_or (patches room) i no_patch

abbrev pub patch_place : Room → ℕ → Place
patch_place room i = place_of (patch_of room i).centre

abbrev pub patch_face : Room → ℕ → Face
patch_face room i = (patch_of room i).face

abbrev pub task_point_of : Room → ℕ → TaskPoint
task_point_of room g = slice_index_or (task_points room) g no_task_point

abbrev pub task_point_place : Room → ℕ → Place
task_point_place room g = place_of (task_point_of room g).at

-- the coefficient with which patch j lights a place with this face, where `factor` is that of a patch and of whether the way to it is clear
abbrev pub coefficient_by : (Place → Face → Patch → Bool → Interval) → Room → Place → Face → ℕ → Interval
coefficient_by factor room p face j = factor p face (patch_of room j) (is_clear room p (patch_place room j))

abbrev pub coefficient_at : ℕ → Room → Place → Face → ℕ → Interval
coefficient_at n room p face j = coefficient_by (coefficient n) room p face j

abbrev pub loose_coefficient_at : ℕ → Room → Place → Face → ℕ → Interval
loose_coefficient_at n room p face j = coefficient_by (loose_coefficient n) room p face j

-- ---- the room's patches and task points

-- where `factor` gives the coefficients and `share` the light of a lamp's points, and the patches' light is moved outward by `move`
abbrev pub equations : (Place → Face → Patch → Bool → Interval) → (Lamp → Place → Place → Face → Bool → Interval) → Fraction → Room
    → Radiosity
equations factor share move room = record {
  patches = record {
    size = patch_count room;
    coefficient = λ i j. coefficient_by factor room (patch_place room i) (patch_face room i) j;
    direct = λ i. light_of_room share room (patch_place room i) (patch_face room i);
  };
  points = room.task.nx * room.task.ny;
  covered = λ g. (task_point_of room g).covered;
  coefficient = λ g j. coefficient_by factor room (task_point_place room g) Up j;
  direct = λ g. light_of_room share room (task_point_place room g) Up;
  move = move;
}

-- at depth n, with the exact tables of the room's files in their order
abbrev pub radiosity : ℕ → List Table → Room → Radiosity
radiosity n tables room = equations (coefficient n) (share n tables) (whole 0) room

-- the same, wider by stated amounts
abbrev pub loose_radiosity : ℕ → List Table → Room → Radiosity
loose_radiosity n tables room = equations (loose_coefficient n) (loose_share n tables) (ratio 1 10000) room
