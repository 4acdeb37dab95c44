-- The law is a lemma.
use Rattle.zonal_flux.proofs.Spheres.{half_spheres}
use Rattle.zonal_flux.proofs.laws.zones_make_half_spheres.Goals as goal

pub returns : goal.returns
returns c = half_spheres
