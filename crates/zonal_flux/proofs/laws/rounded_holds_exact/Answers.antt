-- The law is a lemma.
use Rattle.zonal_flux.proofs.Prints.{rounded_holds_exact}
use Rattle.zonal_flux.proofs.laws.rounded_holds_exact.Goals as goal

pub returns : goal.returns
returns c = rounded_holds_exact
