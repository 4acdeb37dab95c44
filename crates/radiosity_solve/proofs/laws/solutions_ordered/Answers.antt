use Rattle.radiosity_solve.proofs.Fractions.{solutions_ordered}
use Rattle.radiosity_solve.proofs.laws.solutions_ordered.Goals as goal

pub returns : goal.returns
returns c = solutions_ordered
