use Rattle.std.proofs.Common.{arith}
use Rattle.radiosity_solve.proofs.Mild.{mild}
use Rattle.radiosity_solve.proofs.Turned.{upper_in_range}
use Rattle.radiosity_solve.proofs.NearEnough.{upper_found}
use Rattle.radiosity_solve.proofs.trial.upper_tried.Goals as goal

pub rises_little-requires-clause-low_ends : goal.rises_little-requires-clause-low_ends
rises_little-requires-clause-low_ends g c =
    upper_in_range c.args.system.now c.loop.near c.upper_turn.new.into (mild c.args.system.now c.size-size.ensures.system c.requires.none_heavy) c.upper_turn.ensures
    c.loop.invariant.near_size (omega arith) c.loop.invariant.ends

pub returns-then-rises_little-clause-found : goal.returns-then-rises_little-clause-found
returns-then-rises_little-clause-found g c =
    λ _. upper_found c.args.system.now c.loop.near c.upper_turn.new.into (mild c.args.system.now c.size-size.ensures.system c.requires.none_heavy) c.upper_turn.ensures
    c.loop.invariant.near_size (omega arith) c.loop.invariant.ends (c.rises_little.ensures c.if-rises_little.true)
