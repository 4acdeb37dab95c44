-- What of a room its lamps don't change.
use Rattle.std.specs.Prelude.{ℕ, ◌≡◌, Bool, List}
use Rattle.room_layout.specs.Kept.{kept_room}
use Rattle.room_layout.specs.declared.geometry.Face.TheVariants.{Up}
use Rattle.room_layout.specs.declared.room.Lamp.{Lamp}
use Rattle.room_layout.specs.declared.room.Room.{Room}
use Rattle.photo_table.specs.Table.{Table}
use Rattle.scene_system.specs.Causes.{IsWithinLimits}
use Rattle.scene_system.specs.Light.{direct_light, loose_direct_light}
use Rattle.scene_system.specs.RowSums.{row_sum}
use Rattle.scene_system.specs.Scene.{patch_face, patch_place, task_point_place, radiosity, loose_radiosity}
use Rattle.dimming_plan.specs.Dimmed.{Lighting, lit_by}

-- the same room with other lamps
abbrev pub with_lamps : Room → List Lamp → Room
with_lamps room lamps = record {
  size = room.size;
  reflect = room.reflect;
  patch = room.patch;
  blocks = room.blocks;
  lamps = lamps;
  files = room.files;
  task = room.task;
  limits = room.limits;
}

-- the light of these lamps in a room, at depth n
abbrev pub light_of_lamps : ℕ → List Table → Room → List Lamp → Lighting
light_of_lamps n tables room lamps = record {
  patches = λ i. direct_light n tables (with_lamps room lamps) (patch_place room i) (patch_face room i);
  points = λ g. direct_light n tables (with_lamps room lamps) (task_point_place room g) Up;
}

abbrev pub loose_light_of_lamps : ℕ → List Table → Room → List Lamp → Lighting
loose_light_of_lamps n tables room lamps = record {
  patches = λ i. loose_direct_light n tables (with_lamps room lamps) (patch_place room i) (patch_face room i);
  points = λ g. loose_direct_light n tables (with_lamps room lamps) (task_point_place room g) Up;
}

-- with other lamps a room has the same patches, points and coefficients: only the direct light is another
pub record LampsKeepGeometry (n : ℕ) (tables : List Table) (room : Room) (lamps : List Lamp) : Type 0 where
  pub exact : radiosity n tables (with_lamps room lamps) ≡ lit_by (radiosity n tables room) (light_of_lamps n tables room lamps)
  pub loose : loose_radiosity n tables (with_lamps room lamps) ≡ lit_by (loose_radiosity n tables room) (loose_light_of_lamps n tables room lamps)
  pub row_sums : (i : ℕ) → row_sum n (with_lamps room lamps) i ≡ row_sum n room i

abbrev pub GeometryIsKept : Type 0
GeometryIsKept = (n : ℕ) (tables : List Table) (room : Room) (lamps : List Lamp) → LampsKeepGeometry n tables room lamps

-- with some of its lamps a room is within its limits where it is with all of them
abbrev pub LimitsAreKept : Type 0
LimitsAreKept = (tables : List Table) (room : Room) (keep : List Bool) → IsWithinLimits tables room → IsWithinLimits tables (kept_room keep room)
