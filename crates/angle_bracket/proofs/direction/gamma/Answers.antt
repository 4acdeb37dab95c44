use Rattle.std.proofs.Common.{◌+◌, ◌≡◌, true, false, arith}
use Rattle.angle_bracket.specs.Direction.{square, is_positive}
use Rattle.angle_bracket.proofs.Meeting.{tested, squared, meets_gamma_above, meets_gamma_below}
use Rattle.angle_bracket.proofs.direction.gamma.Goals as goal

pub returns-then-dz-gt0-clause-meets : goal.returns-then-dz-gt0-clause-meets
returns-then-dz-gt0-clause-meets c = λ n.
    let up = squared c.args.dz c.square.result c.ranges.dz c.square.ensures.value in
    let east = squared c.args.dx c.square-2.result c.ranges.dx c.square-2.ensures.value in
    let north = squared c.args.dy c.square-3.result c.ranges.dy c.square-3.ensures.value in
    let level : c.square-2.result + c.square-3.result ≡ square c.args.dx + square c.args.dy = omega arith in
    rw (c.bracket_of.ensures.low, c.bracket_of.ensures.high, c.taken_from.ensures.low, c.taken_from.ensures.high)
    (meets_gamma_above n c.square.result (c.square-2.result + c.square-3.result) c.quarter_angle-angle.result.lo c.quarter_angle-angle.result.hi
    c.args.dx c.args.dy c.args.dz up level (tested is_positive c.args.dz true c.ranges.dz c.if-dz-gt0.true) (c.quarter_angle-angle.ensures.meets n))

pub returns-else-dz-gt0-clause-meets : goal.returns-else-dz-gt0-clause-meets
returns-else-dz-gt0-clause-meets c = λ n.
    let up = squared c.args.dz c.square.result c.ranges.dz c.square.ensures.value in
    let east = squared c.args.dx c.square-2.result c.ranges.dx c.square-2.ensures.value in
    let north = squared c.args.dy c.square-3.result c.ranges.dy c.square-3.ensures.value in
    let level : c.square-2.result + c.square-3.result ≡ square c.args.dx + square c.args.dy = omega arith in
    rw (c.bracket_of-else-dz-gt0.ensures.low, c.bracket_of-else-dz-gt0.ensures.high)
    (meets_gamma_below n c.square.result (c.square-2.result + c.square-3.result) c.quarter_angle-angle.result.lo c.quarter_angle-angle.result.hi
    c.args.dx c.args.dy c.args.dz up level (tested is_positive c.args.dz false c.ranges.dz c.if-dz-gt0.false) (c.quarter_angle-angle.ensures.meets n))
