use Rattle.form_factor.proofs.Apart.{fronts_near}
use Rattle.form_factor.proofs.laws.fronts_are_near.Goals as goal

pub returns : goal.returns
returns c = fronts_near
