-- What of `shown_holds_light` wants a proof by hand.
use Rattle.grid_report.proofs.PatchBounds.{shown_holds_light}
use Rattle.grid_report.proofs.laws.shown_holds_light.Goals as goal

pub returns : goal.returns
returns c = shown_holds_light
