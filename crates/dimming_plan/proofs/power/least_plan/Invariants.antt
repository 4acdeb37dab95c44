-- What holds before each turn of the loops of `least_plan`.
use Rattle.dimming_plan.specs.Search.{SoFar}
use Rattle.dimming_plan.proofs.power.least_plan.Given as goal

abbrev pub invariant-loop-number : goal.invariant-loop-number
invariant-loop-number l = SoFar l.light l.watts l.least l.number l.best
