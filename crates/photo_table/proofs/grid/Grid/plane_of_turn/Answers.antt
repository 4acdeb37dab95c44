use Rattle.std.proofs.Common.{arith, ap, ◌∙◌, sym}
use Rattle.photo_table.specs.Kept.{angle_of}
use Rattle.photo_table.proofs.Lists.{angle_read, plane_in_turn}
use Rattle.photo_table.proofs.grid.Grid.plane_of_turn.Goals as goal

pub returns-clause-angle : goal.returns-clause-angle
returns-clause-angle c =
    plane_in_turn c.args.self.now.planes.items c.args.self.now.gammas.items c.args.self.now.values.items c.args.k c.index.result.now c.requires c.index.ensures

pub returns-clause-below : goal.returns-clause-below
returns-clause-below c =
    let e = angle_read c.args.self.now.planes.items c.args.k c.index.result.now c.requires ∙ ap angle_of (sym c.index.ensures) in
    let g = c.args.self.now.kept.planes_below c.args.k c.requires in
    omega (arith, e, g)
