-- The table is folded as it should be.
use Rattle.symmetry_expand.proofs.Measures.{measured_folded}
use Rattle.symmetry_expand.proofs.expansion.expand.Goals as goal

pub returns-in-Ok-clause-folded : goal.returns-in-Ok-clause-folded
returns-in-Ok-clause-folded c =
    let m = c.args.measured in
    rw c.in-Ok.ensures.table
    (measured_folded c.args.symmetry m.planes.items m.gammas.items m.values.items c.requires.rise c.requires.suited c.requires.gammas c.requires.all c.in-Ok.ensures.runs)
