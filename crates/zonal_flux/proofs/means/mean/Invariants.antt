-- The sum of the sectors before the plane.
use Rattle.zonal_flux.specs.Steps.{AreSectors}
use Rattle.zonal_flux.proofs.means.mean.Given as goal

abbrev pub invariant-loop-i : goal.invariant-loop-i
invariant-loop-i l = AreSectors l.photo l.k l.i l.sectors
