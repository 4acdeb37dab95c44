-- The task points of a room, by row, then by column. A point is covered where it lies in the open inside of a box.
use Rattle.std.specs.Prelude.{ℕ, ◌*◌, Bool, ◌&&◌, nat_lt, List, map}
use Rattle.std.specs.List.{flat_map, list_any}
use Rattle.room_layout.specs.Place.{Place, point_of, task_place}
use Rattle.room_layout.specs.declared.room.Block.{Block}
use Rattle.room_layout.specs.declared.room.Room.{Room}
use Rattle.patch_mesh.specs.declared.patch.TaskPoint.{TaskPoint}
use Rattle.patch_mesh.specs.Cuts.{below}

-- a coordinate in half mm lies between two in mm, and at neither
abbrev pub is_between : ℕ → ℕ → ℕ → Bool
is_between lo hi n = nat_lt (2 * lo) n && nat_lt n (2 * hi)

abbrev pub is_inside : Place → Block → Bool
is_inside p b = is_between b.lo.x b.hi.x p.x && is_between b.lo.y b.hi.y p.y && is_between b.lo.z b.hi.z p.z

-- the point in column i of row j
unfoldable pub task_point : Room → ℕ → ℕ → TaskPoint
task_point room j i =
    let p = task_place room.task i j in
    record { at = point_of p; covered = list_any (is_inside p) room.blocks }

-- the task points of a room, row by row
unfoldable pub task_points : Room → List TaskPoint
task_points room = flat_map (λ j. map (task_point room j) (below room.task.nx)) (below room.task.ny)
