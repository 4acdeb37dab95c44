use Rattle.std.proofs.Common.{◌≡◌, arith, length}
use Rattle.photo_table.proofs.Lists.{plane_read}
use Rattle.photo_table.proofs.grid.Grid.plane_at.Goals as goal

pub returns : goal.returns
returns c =
    let count : c.len-count.result ≡ length c.args.self.now.planes.items = omega (arith, c.len-count.ensures, c.args.self.now.planes.ok.0) in
    rw (c.angle_at.ensures, c.deref.ensures.value)
    (plane_read c.args.self.now.planes.items c.args.self.now.gammas.items c.args.self.now.values.items c.args.i c.len-count.result count)
