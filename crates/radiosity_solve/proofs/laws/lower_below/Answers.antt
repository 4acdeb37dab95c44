use Rattle.radiosity_solve.proofs.Compose.{lower_below}
use Rattle.radiosity_solve.proofs.laws.lower_below.Goals as goal

pub returns : goal.returns
returns c = lower_below
