use Rattle.angle_bracket.proofs.Meeting.{meets_south_west, meets_south_east, meets_north_west, meets_north_east}
use Rattle.angle_bracket.proofs.direction.in_quarter.Goals as goal

pub returns-then-west-clause-meets : goal.returns-then-west-clause-meets
returns-then-west-clause-meets c = λ t m.
    meets_south_west c.args.west c.args.south c.args.angle.lo c.args.angle.hi t c.if-south.true c.if-west.true m

pub returns-else-west-clause-meets : goal.returns-else-west-clause-meets
returns-else-west-clause-meets c = λ t m.
    rw (c.taken_from.ensures.low, c.taken_from.ensures.high)
    (meets_south_east c.args.west c.args.south c.args.angle.lo c.args.angle.hi t c.if-south.true c.if-west.false m)

pub returns-then-west-2-clause-meets : goal.returns-then-west-2-clause-meets
returns-then-west-2-clause-meets c = λ t m.
    rw (c.taken_from-then-west-2.ensures.low, c.taken_from-then-west-2.ensures.high)
    (meets_north_west c.args.west c.args.south c.args.angle.lo c.args.angle.hi t c.if-south.false c.if-west-2.true m)

pub returns-else-west-2-clause-meets : goal.returns-else-west-2-clause-meets
returns-else-west-2-clause-meets c = λ t m.
    meets_north_east c.args.west c.args.south c.args.angle.lo c.args.angle.hi t c.if-south.false c.if-west-2.false m
