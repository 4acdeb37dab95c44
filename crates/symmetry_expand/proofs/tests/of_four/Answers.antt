-- Four planes that rise make a table.
use Rattle.std.proofs.Common.{◌∷◌, [], List, pos, arith}
use Rattle.std.proofs.lemmas.Int.{ints}
use Rattle.fx_base.specs.Ends.{Ends}
use Rattle.fx_base.specs.declared.Micro.{Micro}
use Rattle.photo_table.proofs.FromLists.{gammas_of, intensities_of, whole_intensity}
use Rattle.symmetry_expand.proofs.FromLists.{rise_of}
use Rattle.symmetry_expand.proofs.tests.of_four.Goals as goal

pub expand-requires-clause-rise : goal.expand-requires-clause-rise
expand-requires-clause-rise c =
    let p : Micro = c.args.first in
    let ps : List Micro = c.args.second ∷ c.args.third ∷ c.args.fourth ∷ [] in
    let a = c.requires.first in
    let b = c.requires.second in
    let d = c.requires.third in
    let e = c.requires.turn in
    rw c.in_ok-planes.ensures.items (rise_of p ps (a, (omega (arith, ints), (b, (omega (arith, ints), (d, (e, tt)))))))

pub expand-requires-clause-gammas : goal.expand-requires-clause-gammas
expand-requires-clause-gammas c =
    let g : Micro = record { 0 = pos 0 } in
    let gs : List Micro = (record { 0 = pos 90000000 }) ∷ [] in
    rw c.in_ok-gammas.ensures.items (gammas_of g gs (omega arith, tt) (omega (arith, ints), (omega (arith, ints), tt)) (omega arith, (omega arith, tt)) (omega arith))

pub expand-requires-clause-values : goal.expand-requires-clause-values
expand-requires-clause-values c =
    let vs : List Ends = c.whole.result ∷ c.whole-2.result ∷ c.whole-3.result ∷ c.whole-4.result ∷ c.whole-5.result ∷ c.whole-6.result ∷ c.whole-7.result ∷ c.whole-8.result ∷ [] in
    rw c.in_ok-values.ensures.items (intensities_of vs (whole_intensity c.whole.result 1 c.whole.ensures.low c.whole.ensures.high (omega arith), (whole_intensity c.whole-2.result 1 c.whole-2.ensures.low c.whole-2.ensures.high (omega arith), (whole_intensity c.whole-3.result 2 c.whole-3.ensures.low c.whole-3.ensures.high (omega arith), (whole_intensity c.whole-4.result 2 c.whole-4.ensures.low c.whole-4.ensures.high (omega arith), (whole_intensity c.whole-5.result 3 c.whole-5.ensures.low c.whole-5.ensures.high (omega arith), (whole_intensity c.whole-6.result 3 c.whole-6.ensures.low c.whole-6.ensures.high (omega arith), (whole_intensity c.whole-7.result 4 c.whole-7.ensures.low c.whole-7.ensures.high (omega arith), (whole_intensity c.whole-8.result 4 c.whole-8.ensures.low c.whole-8.ensures.high (omega arith), tt)))))))))
