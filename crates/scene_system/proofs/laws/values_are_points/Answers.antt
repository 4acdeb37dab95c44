-- What of `values_are_points` wants a proof by hand.
use Rattle.scene_system.proofs.Composed.{values_are_points}
use Rattle.scene_system.proofs.laws.values_are_points.Goals as goal

pub returns : goal.returns
returns c = values_are_points
