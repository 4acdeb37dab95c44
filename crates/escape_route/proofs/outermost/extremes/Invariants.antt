-- The two spans are the least and the greatest of the first points.
use Rattle.escape_route.proofs.Found.{AreSoFar}
use Rattle.escape_route.proofs.outermost.extremes.Given as goal

abbrev pub invariant-loop-k : goal.invariant-loop-k
invariant-loop-k l = AreSoFar l.photos l.room l.lamps l.points l.k l.least l.greatest
