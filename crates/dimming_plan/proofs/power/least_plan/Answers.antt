-- What of `least_plan` wants a proof by hand.
use Rattle.std.proofs.Common.{arith}
use Rattle.dimming_plan.proofs.Searched.{at_first, none_found, one_found}
use Rattle.dimming_plan.proofs.power.least_plan.Goals as goal

pub loop-number-init : goal.loop-number-init
loop-number-init c = at_first c.args.light.now c.args.watts.now c.args.least

pub returns-clause-none : goal.returns-clause-none
returns-clause-none c = none_found c.args.light.now c.args.watts.now c.args.least c.loop-number.number c.loop-number.best (omega arith) c.loop-number.invariant

pub returns-clause-some : goal.returns-clause-some
returns-clause-some c = one_found c.args.light.now c.args.watts.now c.args.least c.loop-number.number c.loop-number.best (omega arith) c.loop-number.invariant
