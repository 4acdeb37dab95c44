-- What of `unshown_has_cause` wants a proof by hand.
use Rattle.grid_report.proofs.PatchBounds.{unshown_has_cause}
use Rattle.grid_report.proofs.laws.unshown_has_cause.Goals as goal

pub returns : goal.returns
returns c = unshown_has_cause
