-- What of `geometry_is_kept` wants a proof by hand.
use Rattle.dimming_plan.proofs.Geometry.{geometry_is_kept}
use Rattle.dimming_plan.proofs.laws.geometry_is_kept.Goals as goal

pub returns : goal.returns
returns c = geometry_is_kept
