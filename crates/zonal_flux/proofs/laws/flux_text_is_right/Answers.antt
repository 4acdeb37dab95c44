-- The law is a lemma.
use Rattle.zonal_flux.proofs.Prints.{flux_text_is_right}
use Rattle.zonal_flux.proofs.laws.flux_text_is_right.Goals as goal

pub returns : goal.returns
returns c = flux_text_is_right
