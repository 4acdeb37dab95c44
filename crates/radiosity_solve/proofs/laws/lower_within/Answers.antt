use Rattle.radiosity_solve.proofs.Compose.{lower_within}
use Rattle.radiosity_solve.proofs.laws.lower_within.Goals as goal

pub returns : goal.returns
returns c = lower_within
