use Rattle.fx_base.specs.Units.{micros_between}
use Rattle.angle_bracket.proofs.Meeting.{meets_flat, meets_steep}
use Rattle.angle_bracket.proofs.direction.quarter_angle.Goals as goal

pub returns-then-y-x-clause-meets : goal.returns-then-y-x-clause-meets
returns-then-y-x-clause-meets c = λ n.
    meets_flat n c.args.x c.args.y (micros_between c.slope_angle.result.lo c.slope_angle.result.hi) c.if-y-x.true (c.slope_angle.ensures.meets n)

pub returns-else-y-x-clause-meets : goal.returns-else-y-x-clause-meets
returns-else-y-x-clause-meets c = λ n.
    rw (c.taken_from.ensures.low, c.taken_from.ensures.high)
    (meets_steep n c.args.x c.args.y c.slope_angle-else-y-x.result.lo c.slope_angle-else-y-x.result.hi c.if-y-x.false (c.slope_angle-else-y-x.ensures.meets n))
