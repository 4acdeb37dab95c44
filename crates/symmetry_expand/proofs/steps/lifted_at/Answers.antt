-- A plane in its turn.
use Rattle.std.proofs.Common.{arith}
use Rattle.symmetry_expand.proofs.Planes.{lifted_get, far_most, first_least, in_turn_below}
use Rattle.symmetry_expand.specs.Measured.{no_angle, first_angle}
use Rattle.symmetry_expand.proofs.steps.lifted_at.Goals as goal

pub distance-requires : goal.distance-requires
distance-requires c = first_least c.args.planes.now c.requires.rise c.args.k no_angle c.requires.k

pub overflow_add-result : goal.overflow_add-result
overflow_add-result c =
    let ps = c.args.planes.now in
    omega (arith, c.distance.ensures, far_most ps c.requires.rise c.args.k no_angle c.requires.k, in_turn_below (first_angle ps), c.requires.first)

pub returns-clause-at : goal.returns-clause-at
returns-clause-at c = omega (arith, c.distance.ensures, lifted_get c.args.planes.now c.args.k no_angle c.requires.k, c.requires.first)

pub returns-clause-most : goal.returns-clause-most
returns-clause-most c =
    let ps = c.args.planes.now in
    omega (arith, c.distance.ensures, far_most ps c.requires.rise c.args.k no_angle c.requires.k, in_turn_below (first_angle ps), c.requires.first)
