-- The law is a lemma.
use Rattle.zonal_flux.proofs.EvenLamps.{even_lamp}
use Rattle.zonal_flux.proofs.laws.even_lamp_sends_sphere.Goals as goal

pub returns : goal.returns
returns c = even_lamp
