use Rattle.std.proofs.Common.{arith}
use Rattle.radiosity_solve.proofs.Mild.{mild}
use Rattle.radiosity_solve.proofs.Turned.{lower_in_range}
use Rattle.radiosity_solve.proofs.NearEnough.{lower_found}
use Rattle.radiosity_solve.proofs.trial.lower_tried.Goals as goal

pub rises_little-requires-clause-high_ends : goal.rises_little-requires-clause-high_ends
rises_little-requires-clause-high_ends g c =
    lower_in_range c.args.system.now c.loop.near c.lower_turn.new.into (mild c.args.system.now c.size-size.ensures.system c.requires.none_heavy) c.lower_turn.ensures
    c.loop.invariant.near_size (omega arith) c.loop.invariant.ends

pub returns-then-rises_little-clause-found : goal.returns-then-rises_little-clause-found
returns-then-rises_little-clause-found g c =
    λ _. lower_found c.args.system.now c.loop.near c.lower_turn.new.into (mild c.args.system.now c.size-size.ensures.system c.requires.none_heavy) c.lower_turn.ensures
    c.loop.invariant.near_size (omega arith) c.loop.invariant.ends (c.rises_little.ensures c.if-rises_little.true)
