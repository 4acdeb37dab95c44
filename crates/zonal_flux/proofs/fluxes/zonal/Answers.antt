-- What is rounded in 18 zones, and in 36, is within the allowance.
use Rattle.std.proofs.Common.{arith}
use Rattle.zonal_flux.specs.Fluxes.{down, up}
use Rattle.zonal_flux.proofs.ZoneSums.{flux_is, total_is}
use Rattle.zonal_flux.proofs.fluxes.zonal.Goals as goal

pub returns-clause-down : goal.returns-clause-down
returns-clause-down c = flux_is c.args.photo.now down 18 c.into_zones-down.result (omega arith) c.into_zones-down.ensures

pub returns-clause-up : goal.returns-clause-up
returns-clause-up c = flux_is c.args.photo.now up 18 c.into_zones-up.result (omega arith) c.into_zones-up.ensures

pub returns-clause-total : goal.returns-clause-total
returns-clause-total c =
    total_is c.args.photo.now c.into_zones-down.result c.into_zones-up.result c.add.result c.into_zones-down.ensures c.into_zones-up.ensures
    c.add.ensures.low c.add.ensures.high
