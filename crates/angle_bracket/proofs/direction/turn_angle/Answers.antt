use Rattle.std.proofs.Common.{◌+◌, ◌≡◌, arith}
use Rattle.fx_base.specs.Units.{micros_between}
use Rattle.angle_bracket.specs.Direction.{square}
use Rattle.angle_bracket.proofs.Meeting.{same_quarter, squared, meets_nowhere, meets_c}
use Rattle.angle_bracket.proofs.direction.turn_angle.Goals as goal

pub returns-then-east-north-eq0-clause-meets : goal.returns-then-east-north-eq0-clause-meets
returns-then-east-north-eq0-clause-meets c = λ n.
    let east = squared c.args.dx c.square-east.result c.ranges.dx c.square-east.ensures.value in
    let north = squared c.args.dy c.square-north.result c.ranges.dy c.square-north.ensures.value in
    let none : square c.args.dx + square c.args.dy ≡ 0 = omega arith in
    rw (c.bracket_of.ensures.low, c.bracket_of.ensures.high) (meets_nowhere n c.args.dx c.args.dy c.args.turn none)

pub returns-clause-meets : goal.returns-clause-meets
returns-clause-meets c = λ n.
    let east = squared c.args.dx c.square-east.result c.ranges.dx c.square-east.ensures.value in
    let north = squared c.args.dy c.square-north.result c.ranges.dy c.square-north.ensures.value in
    rw (c.bracket_of-2.ensures.low, c.bracket_of-2.ensures.high)
    (meets_c n c.square-east.result c.square-north.result c.args.turn c.args.dx c.args.dy
    (micros_between c.quarter_angle.result.lo c.quarter_angle.result.hi) (micros_between c.in_quarter-angle.result.lo c.in_quarter-angle.result.hi)
    (micros_between c.turned_back.result.lo c.turned_back.result.hi)
    east north (omega arith) (c.quarter_angle.ensures.meets n) (same_quarter c.args.dx c.args.dy (micros_between c.quarter_angle.result.lo c.quarter_angle.result.hi) (micros_between c.in_quarter-angle.result.lo c.in_quarter-angle.result.hi) c.ranges.dx c.ranges.dy c.in_quarter-angle.ensures.meets)
    c.turned_back.ensures.meets)
