-- What of `plan_is_average` wants a proof by hand.
use Rattle.dimming_plan.proofs.Multiples.{plan_is_average}
use Rattle.dimming_plan.proofs.laws.plan_is_average.Goals as goal

pub returns : goal.returns
returns c = plan_is_average
