use Rattle.std.proofs.Common.{arith}
use Rattle.radiosity_solve.proofs.Mild.{mild}
use Rattle.radiosity_solve.proofs.Turned.{lower_in_range}
use Rattle.radiosity_solve.proofs.side.rise.Goals as goal

pub greatest_change-requires-clause-into : goal.greatest_change-requires-clause-into
greatest_change-requires-clause-into g c =
    lower_in_range c.args.system.now c.args.from.now c.lower_turn.new.into (mild c.args.system.now c.size-size.ensures.system c.requires.none_heavy) c.lower_turn.ensures
    c.requires.size (omega arith) c.requires.ends

pub returns-clause-ends : goal.returns-clause-ends
returns-clause-ends g c =
    lower_in_range c.args.system.now c.args.from.now c.lower_turn.new.into (mild c.args.system.now c.size-size.ensures.system c.requires.none_heavy) c.lower_turn.ensures
    c.requires.size (omega arith) c.requires.ends
