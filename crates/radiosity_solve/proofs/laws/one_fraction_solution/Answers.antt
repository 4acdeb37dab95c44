use Rattle.radiosity_solve.proofs.Fractions.{has_one_fraction_solution}
use Rattle.radiosity_solve.proofs.laws.one_fraction_solution.Goals as goal

pub returns : goal.returns
returns c = has_one_fraction_solution
