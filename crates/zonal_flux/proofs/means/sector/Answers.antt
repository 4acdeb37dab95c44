-- The width is the angle to the next plane, and what is multiplied fits.
use Rattle.std.proofs.Common.{◌-◌, arith}
use Rattle.zonal_flux.proofs.Planes.{plane_after}
use Rattle.zonal_flux.proofs.Sectors.{sector_is, sector_fits}
use Rattle.zonal_flux.proofs.means.sector.Goals as goal

pub overflow_sub-width : goal.overflow_sub-width
overflow_sub-width c =
    let g = plane_after c.args.photo.now c.angle_on.ensures.kept.is_table c.args.i in
    let a = c.angle_on.ensures.at in
    let b = c.angle_on-2.ensures.at in
    omega (arith, g, a, b)

pub scale_div-requires-clause-high : goal.scale_div-requires-clause-high
scale_div-requires-clause-high c = sector_fits c.args.photo.now c.angle_on.ensures.kept.is_table c.args.k c.args.i (c.angle_on.result - c.angle_on-2.result) c.in_plane.result c.in_plane-2.result c.add-both.result
    (let a = c.angle_on.ensures.at in let b = c.angle_on-2.ensures.at in omega (arith, a, b)) c.in_plane.ensures c.in_plane-2.ensures c.add-both.ensures.high

pub returns : goal.returns
returns c = sector_is c.args.photo.now c.args.k c.args.i (c.angle_on.result - c.angle_on-2.result) c.in_plane.result c.in_plane-2.result c.add-both.result c.scale_div.result
    (let a = c.angle_on.ensures.at in let b = c.angle_on-2.ensures.at in omega (arith, a, b)) c.in_plane.ensures c.in_plane-2.ensures
    c.add-both.ensures.low c.add-both.ensures.high c.scale_div.ensures.low c.scale_div.ensures.high
