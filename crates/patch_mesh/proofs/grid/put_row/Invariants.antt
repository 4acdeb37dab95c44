use Rattle.std.proofs.Common.{◌≡◌, ◌++◌, map}
use Rattle.patch_mesh.specs.Cuts.{below}
use Rattle.patch_mesh.specs.TaskPoints.{task_point}
use Rattle.patch_mesh.proofs.grid.put_row.Given as goal

abbrev pub invariant-loop-i : goal.invariant-loop-i
invariant-loop-i l = l.points.items ≡ l.initial.points.items ++ map (task_point l.room l.j) (below l.i)
