-- What of `bounds_hold_light` wants a proof by hand.
use Rattle.grid_report.proofs.PatchBounds.{bounds_hold_light}
use Rattle.grid_report.proofs.laws.bounds_hold_light.Goals as goal

pub returns : goal.returns
returns c = bounds_hold_light
