use Rattle.scene_system.specs.Positions.{ArePointsOfFirst}
use Rattle.scene_system.proofs.lamps.points_of_lamps.Given as goal

abbrev pub invariant-loop-k : goal.invariant-loop-k
invariant-loop-k l = ArePointsOfFirst l.room l.index l.k l.all.items
