use Rattle.std.proofs.Common.{arith}
use Rattle.radiosity_solve.proofs.Mild.{mild}
use Rattle.radiosity_solve.proofs.Turned.{upper_in_range}
use Rattle.radiosity_solve.proofs.side.fall.Goals as goal

pub greatest_change-requires-clause-into : goal.greatest_change-requires-clause-into
greatest_change-requires-clause-into g c =
    upper_in_range c.args.system.now c.args.from.now c.upper_turn.new.into (mild c.args.system.now c.size-size.ensures.system c.requires.none_heavy) c.upper_turn.ensures
    c.requires.size (omega arith) c.requires.ends

pub returns-clause-ends : goal.returns-clause-ends
returns-clause-ends g c =
    upper_in_range c.args.system.now c.args.from.now c.upper_turn.new.into (mild c.args.system.now c.size-size.ensures.system c.requires.none_heavy) c.upper_turn.ensures
    c.requires.size (omega arith) c.requires.ends
