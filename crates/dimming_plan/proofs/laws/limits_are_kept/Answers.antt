-- What of `limits_are_kept` wants a proof by hand.
use Rattle.dimming_plan.proofs.Geometry.{limits_are_kept}
use Rattle.dimming_plan.proofs.laws.limits_are_kept.Goals as goal

pub returns : goal.returns
returns c = limits_are_kept
