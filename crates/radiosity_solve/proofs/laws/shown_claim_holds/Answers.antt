use Rattle.radiosity_solve.proofs.Compose.{shown_claim_holds}
use Rattle.radiosity_solve.proofs.laws.shown_claim_holds.Goals as goal

pub returns : goal.returns
returns c = shown_claim_holds
