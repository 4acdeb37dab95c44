use Rattle.form_factor.proofs.Coefficients.{nests}
use Rattle.form_factor.proofs.laws.coefficient_nests.Goals as goal

pub returns : goal.returns
returns c = nests
