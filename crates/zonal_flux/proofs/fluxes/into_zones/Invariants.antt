-- The flux into the zones so far.
use Rattle.zonal_flux.specs.Steps.{IsSoFar}
use Rattle.zonal_flux.proofs.fluxes.into_zones.Given as goal

abbrev pub invariant-loop-i : goal.invariant-loop-i
invariant-loop-i l = IsSoFar l.photo l.fn.first l.i l.flux
