-- One plane makes a table.
use Rattle.std.proofs.Common.{◌∷◌, [], List, pos, arith}
use Rattle.std.proofs.lemmas.Int.{ints}
use Rattle.fx_base.specs.Ends.{Ends}
use Rattle.fx_base.specs.declared.Micro.{Micro}
use Rattle.photo_table.proofs.FromLists.{gammas_of, intensities_of, whole_intensity}
use Rattle.symmetry_expand.proofs.FromLists.{rise_of}
use Rattle.symmetry_expand.proofs.tests.of_one.Goals as goal

pub expand-requires-clause-rise : goal.expand-requires-clause-rise
expand-requires-clause-rise c =
    let p : Micro = c.args.plane in
    let ps : List Micro = [] in
    rw c.in_ok-planes.ensures.items (rise_of p ps tt)

pub expand-requires-clause-gammas : goal.expand-requires-clause-gammas
expand-requires-clause-gammas c =
    let g : Micro = record { 0 = pos 0 } in
    let gs : List Micro = (record { 0 = pos 90000000 }) ∷ [] in
    rw c.in_ok-gammas.ensures.items (gammas_of g gs (omega arith, tt) (omega (arith, ints), (omega (arith, ints), tt)) (omega arith, (omega arith, tt)) (omega arith))

pub expand-requires-clause-values : goal.expand-requires-clause-values
expand-requires-clause-values c =
    let vs : List Ends = c.whole.result ∷ c.whole-2.result ∷ [] in
    rw c.in_ok-values.ensures.items (intensities_of vs (whole_intensity c.whole.result 1 c.whole.ensures.low c.whole.ensures.high (omega arith), (whole_intensity c.whole-2.result 1 c.whole-2.ensures.low c.whole-2.ensures.high (omega arith), tt)))
