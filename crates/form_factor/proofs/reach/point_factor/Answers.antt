use Rattle.form_factor.proofs.Coefficients.{close_of}
use Rattle.form_factor.proofs.reach.point_factor.Goals as goal

pub returns-clause-close : goal.returns-clause-close
returns-clause-close c = close_of _ _ _ _ _ c.factor_at.ensures
