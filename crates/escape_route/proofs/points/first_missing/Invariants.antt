-- The numbers so far are below the count.
use Rattle.std.proofs.Common.{◌<◌, All, take}
use Rattle.escape_route.proofs.points.first_missing.Given as goal

abbrev pub invariant-loop-k : goal.invariant-loop-k
invariant-loop-k l = All (λ i. i < l.count) (take l.k-index l.lamps)
