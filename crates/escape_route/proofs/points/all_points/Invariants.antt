-- The points so far are the first ones.
use Rattle.escape_route.proofs.RoutePoints.{AreFirst}
use Rattle.escape_route.proofs.points.all_points.Given as goal

abbrev pub invariant-loop-k : goal.invariant-loop-k
invariant-loop-k l = AreFirst l.route l.k l.points.items
