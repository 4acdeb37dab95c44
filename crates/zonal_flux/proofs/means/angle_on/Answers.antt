-- After the last plane comes the first one a turn later.
use Rattle.std.proofs.Common.{arith}
use Rattle.zonal_flux.proofs.Planes.{first_again}
use Rattle.zonal_flux.proofs.means.angle_on.Goals as goal

pub returns-else-i-planes-clause-at : goal.returns-else-i-planes-clause-at
returns-else-i-planes-clause-at c =
    let e = first_again c.args.photo.now c.planes.ensures.kept.is_table c.args.i (omega arith) in
    omega (arith, e)
