use Rattle.std.proofs.Common.{◌≡◌, ◌≤◌, take}
use Rattle.scene_system.specs.Assembled.{open_points}
use Rattle.scene_system.proofs.limits.open_points.Given as goal

abbrev pub invariant-loop-point : goal.invariant-loop-point
invariant-loop-point l = record {
  so_far : l.open ≡ open_points (take l.point-index l.points);
  most : l.open ≤ l.point-index;
}
