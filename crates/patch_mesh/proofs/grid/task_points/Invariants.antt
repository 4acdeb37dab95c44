use Rattle.std.proofs.Common.{◌≡◌}
use Rattle.patch_mesh.specs.TaskPoints.{task_point}
use Rattle.patch_mesh.proofs.Rows.{first_rows}
use Rattle.patch_mesh.proofs.grid.task_points.Given as goal

abbrev pub invariant-loop-j : goal.invariant-loop-j
invariant-loop-j l = l.points.items ≡ first_rows (task_point l.room) l.room.task.nx l.j
