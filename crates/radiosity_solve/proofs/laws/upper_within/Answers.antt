use Rattle.radiosity_solve.proofs.Compose.{upper_within}
use Rattle.radiosity_solve.proofs.laws.upper_within.Goals as goal

pub returns : goal.returns
returns c = upper_within
