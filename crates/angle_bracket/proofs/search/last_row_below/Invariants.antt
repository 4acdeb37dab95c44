use Rattle.std.proofs.Common.{◌-◌}
use Rattle.angle_bracket.specs.Found.{IsFound}
use Rattle.angle_bracket.proofs.search.last_row_below.Given as goal

abbrev pub invariant-loop-high : goal.invariant-loop-high
invariant-loop-high l = IsFound l.fn.x l.fn.y 15625 l.low l.high

abbrev pub decreases-loop-high : goal.decreases-loop-high
decreases-loop-high l = l.high - l.low
