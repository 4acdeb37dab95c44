use Rattle.radiosity_solve.proofs.Fractions.{light_rises}
use Rattle.radiosity_solve.proofs.laws.light_rises.Goals as goal

pub returns : goal.returns
returns c = light_rises
