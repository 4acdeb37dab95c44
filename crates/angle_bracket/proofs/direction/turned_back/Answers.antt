use Rattle.angle_bracket.proofs.Meeting.{meets_turned, meets_turned_earlier}
use Rattle.angle_bracket.proofs.direction.turned_back.Goals as goal

pub returns-then-lo-lt-TURN-clause-meets : goal.returns-then-lo-lt-TURN-clause-meets
returns-then-lo-lt-TURN-clause-meets c = λ t m. meets_turned c.args.turn c.args.angle.lo c.args.angle.hi t c.requires.turn m

pub returns-else-lo-lt-TURN-clause-meets : goal.returns-else-lo-lt-TURN-clause-meets
returns-else-lo-lt-TURN-clause-meets c = λ t m.
    meets_turned_earlier c.args.turn c.args.angle.lo c.args.angle.hi t c.requires.turn c.if-lo-lt-TURN.false m
