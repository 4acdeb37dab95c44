use Rattle.radiosity_solve.proofs.Signed.{is_compared}
use Rattle.radiosity_solve.proofs.laws.comparison.Goals as goal

pub returns : goal.returns
returns c = is_compared
