use Rattle.form_factor.proofs.Coefficients.{narrows}
use Rattle.form_factor.proofs.laws.coefficient_narrows.Goals as goal

pub returns : goal.returns
returns c = narrows
