-- What of `plans_are_a_bracket` wants a proof by hand.
use Rattle.dimming_plan.proofs.PlanLight.{plans_are_a_bracket}
use Rattle.dimming_plan.proofs.laws.plans_are_a_bracket.Goals as goal

pub returns : goal.returns
returns c = plans_are_a_bracket
