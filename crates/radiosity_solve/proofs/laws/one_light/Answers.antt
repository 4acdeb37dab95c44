use Rattle.radiosity_solve.proofs.Fractions.{one_light}
use Rattle.radiosity_solve.proofs.laws.one_light.Goals as goal

pub returns : goal.returns
returns c = one_light
