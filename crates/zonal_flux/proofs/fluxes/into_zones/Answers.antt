-- Each turn of the loop adds the flux into a zone.
use Rattle.std.proofs.Common.{◌+◌, arith}
use Rattle.zonal_flux.proofs.ZoneSums.{no_zones, more_zones, zone_is, zone_fits}
use Rattle.zonal_flux.proofs.fluxes.into_zones.Goals as goal

pub loop-i-init : goal.loop-i-init
loop-i-init c = no_zones c.args.photo.now c.args.first c.whole-flux.result c.whole-flux.ensures.low c.whole-flux.ensures.high

pub mul-zone-requires-clause-high : goal.mul-zone-requires-clause-high
mul-zone-requires-clause-high c =
    zone_fits c.args.photo.now (c.args.first + c.loop-i.i) c.mean.result c.zone_constant.result c.mean.ensures.mean c.zone_constant.ensures.constant

pub loop-i-preserved : goal.loop-i-preserved
loop-i-preserved c =
    let p = c.args.photo.now in
    let k = c.args.first + c.loop-i.i in
    more_zones p c.args.first c.loop-i.i k c.loop-i.flux c.mul-zone.result c.add-flux.result (omega arith) c.loop-i.invariant
    (zone_is p c.mean.ensures.kept.is_table k c.mean.result c.zone_constant.result c.mul-zone.result c.mean.ensures.mean c.zone_constant.ensures.constant
    c.mul-zone.ensures.low c.mul-zone.ensures.high)
    c.add-flux.ensures.low c.add-flux.ensures.high
