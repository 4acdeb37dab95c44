use Rattle.direct_light.proofs.PointLists.{AreFirst}
use Rattle.direct_light.proofs.points.lamp_points.Given as goal

abbrev pub invariant-loop-k : goal.invariant-loop-k
invariant-loop-k l = AreFirst l.lamp l.k l.points.items
