-- When a room has no scene: its lamps are too bright, it has too many patches, or boxes cover all of its task points; the first of these.
use Rattle.std.specs.Prelude.{ℕ, ◌*◌, ◌≡◌, ◌<◌, ◌≤◌, List, [], ◌∷◌, map, max, sum_by}
use Rattle.fx_base.specs.Interval.{Interval}
use Rattle.room_layout.specs.declared.room.Lamp.{Lamp}
use Rattle.room_layout.specs.declared.room.Shine.TheVariants.{Even, File}
use Rattle.room_layout.specs.declared.room.Room.{Room}
use Rattle.photo_table.specs.Exact.{ticks_above}
use Rattle.photo_table.specs.Table.{Table}
use Rattle.patch_mesh.specs.TaskPoints.{task_points}
use Rattle.patch_mesh.specs.declared.patch.MeshFault.{MeshFault}
use Rattle.patch_mesh.specs.declared.patch.MeshFault.TheVariants as mesh
use Rattle.direct_light.specs.Shares.{table_at}
use Rattle.scene_system.specs.Assembled.{open_points}
use Rattle.scene_system.specs.Scene.{patch_count}
use Rattle.scene_system.specs.declared.fault.SceneFault.{SceneFault}
use Rattle.scene_system.specs.declared.fault.SceneFault.TheVariants.{TotalIntensity, TooManyPatches, NoTaskPoint, Memory}

-- ---- the greatest intensities of all lamps together, in ticks of 2^-36 cd; those of a file are rounded up to a tick

-- the greatest of some numbers, and 0 of none
unfoldable pub greatest_of : List ℕ → ℕ
greatest_of [] = 0
greatest_of (n ∷ more) = max n (greatest_of more)

abbrev pub upper_ticks : Interval → ℕ
upper_ticks i = ticks_above i.hi

abbrev pub greatest_ticks : Table → ℕ
greatest_ticks t = greatest_of (map upper_ticks t.values)

-- the lamp's number of candela, or the greatest of its file's table; in an accepted room a lamp's file number is below the number of files
abbrev pub ticks_of : List Table → Lamp → ℕ
ticks_of tables l = elim l.shine [ Even candela ↦ candela * 68719476736 | File k ↦ greatest_ticks (table_at tables k) ]

abbrev pub total_ticks : List Table → Room → ℕ
total_ticks tables room = sum_by (ticks_of tables) room.lamps

-- 10^7 cd
abbrev pub greatest_total : ℕ
greatest_total = 687194767360000000

abbrev pub most_patches : ℕ
most_patches = 2048

-- ---- a room that has a scene

pub record IsWithinLimits (tables : List Table) (room : Room) : Type 0 where
  pub dim : total_ticks tables room ≤ greatest_total
  pub few : patch_count room ≤ most_patches
  pub some_open : 0 < open_points (task_points room)

-- ---- and why another has none

-- what each refusal says, where the earlier ones don't hold; want of memory says nothing
abbrev pub IsCause : List Table → Room → SceneFault → Type 0
IsCause tables room TotalIntensity = greatest_total < total_ticks tables room
IsCause tables room (TooManyPatches count) = (total_ticks tables room ≤ greatest_total) × (most_patches < patch_count room) × (count ≡ patch_count room)
IsCause tables room NoTaskPoint = (total_ticks tables room ≤ greatest_total) × (patch_count room ≤ most_patches) × (open_points (task_points room) ≡ 0)
IsCause tables room Memory = Unit {0}

-- what a fault of the patches is to the scene
abbrev pub fault_of_mesh : MeshFault → SceneFault
fault_of_mesh (mesh.TooManyPatches count) = TooManyPatches count
fault_of_mesh mesh.Memory = Memory
