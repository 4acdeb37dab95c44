use Rattle.std.proofs.Common.{◌-◌}
use Rattle.angle_bracket.specs.Found.{IsFound}
use Rattle.angle_bracket.proofs.search.last_step_below.Given as goal

abbrev pub invariant-loop-found : goal.invariant-loop-found
invariant-loop-found l = IsFound l.fn.x l.fn.y 125 l.found.low l.found.high

abbrev pub decreases-loop-found : goal.decreases-loop-found
decreases-loop-found l = l.found.high - l.found.low
