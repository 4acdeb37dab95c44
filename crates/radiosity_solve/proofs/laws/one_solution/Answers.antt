use Rattle.radiosity_solve.proofs.Signed.{has_one_solution}
use Rattle.radiosity_solve.proofs.laws.one_solution.Goals as goal

pub returns : goal.returns
returns c = has_one_solution
