-- What holds before each turn of the loops of `points`.
use Rattle.scene_system.specs.Assembled.{numbers}
use Rattle.scene_system.proofs.Totals.{AreValuesSoFar}
use Rattle.scene_system.proofs.grid.points.Given as goal

abbrev pub invariant-loop-g : goal.invariant-loop-g
invariant-loop-g l = AreValuesSoFar (numbers l.scene) l.bounds.lower.items l.bounds.upper.items l.g l.values.items
