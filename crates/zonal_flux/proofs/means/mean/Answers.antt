-- Each turn of the loop adds a sector, and all of them make the mean.
use Rattle.std.proofs.Common.{arith}
use Rattle.zonal_flux.proofs.Planes.{plane_width, part_of_turn}
use Rattle.zonal_flux.proofs.Sectors.{no_sectors, more_sectors, spread_fits_low, spread_fits_high, mean_is, sum_fits}
use Rattle.zonal_flux.proofs.means.mean.Goals as goal

pub loop-i-init : goal.loop-i-init
loop-i-init c = no_sectors c.args.photo.now c.args.k c.whole-sectors.result c.whole-sectors.ensures.low c.whole-sectors.ensures.high

pub add-sectors-requires-clause-low : goal.add-sectors-requires-clause-low
add-sectors-requires-clause-low c = let h = c.planes-i-end.ensures in
    spread_fits_low c.args.photo.now _ _ _ c.loop-i.sectors c.loop-i.invariant (part_of_turn c.args.photo.now h.kept.is_table c.loop-i.i (omega arith))

pub add-sectors-requires-clause-high : goal.add-sectors-requires-clause-high
add-sectors-requires-clause-high c = let h = c.planes-i-end.ensures in
    spread_fits_high c.args.photo.now _ _ _ c.loop-i.sectors c.loop-i.invariant (part_of_turn c.args.photo.now h.kept.is_table c.loop-i.i (omega arith))

pub add-sectors-requires-clause-other_low : goal.add-sectors-requires-clause-other_low
add-sectors-requires-clause-other_low c =
    spread_fits_low c.args.photo.now _ _ _ c.sector.result c.sector.ensures (plane_width c.args.photo.now c.planes-i-end.ensures.kept.is_table c.loop-i.i)

pub add-sectors-requires-clause-other_high : goal.add-sectors-requires-clause-other_high
add-sectors-requires-clause-other_high c =
    spread_fits_high c.args.photo.now _ _ _ c.sector.result c.sector.ensures (plane_width c.args.photo.now c.planes-i-end.ensures.kept.is_table c.loop-i.i)

pub loop-i-preserved : goal.loop-i-preserved
loop-i-preserved c =
    more_sectors c.args.photo.now c.planes-i-end.ensures.kept.is_table c.args.k c.loop-i.i c.loop-i.sectors c.sector.result c.add-sectors.result
    c.loop-i.invariant c.sector.ensures c.add-sectors.ensures.low c.add-sectors.ensures.high

pub scale_div-requires-clause-high : goal.scale_div-requires-clause-high
scale_div-requires-clause-high c = let h = c.planes-i-end.ensures in
    sum_fits c.args.photo.now c.args.k c.loop-i.i c.loop-i.sectors c.loop-i.invariant (part_of_turn c.args.photo.now h.kept.is_table c.loop-i.i (omega arith))

pub returns-clause-mean : goal.returns-clause-mean
returns-clause-mean c = let h = c.planes-i-end.ensures in
    mean_is c.args.photo.now h.kept.is_table c.args.k c.loop-i.i c.loop-i.sectors c.scale_div.result (omega arith) c.loop-i.invariant c.scale_div.ensures.low c.scale_div.ensures.high
