-- What of `shown_claim_bounds` wants a proof by hand.
use Rattle.radiosity_solve.proofs.Shows.{shown_claim_bounds}
use Rattle.radiosity_solve.proofs.laws.shown_claim_bounds.Goals as goal

pub returns : goal.returns
returns c = shown_claim_bounds
