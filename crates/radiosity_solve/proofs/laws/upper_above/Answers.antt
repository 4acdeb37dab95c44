use Rattle.radiosity_solve.proofs.Compose.{upper_above}
use Rattle.radiosity_solve.proofs.laws.upper_above.Goals as goal

pub returns : goal.returns
returns c = upper_above
