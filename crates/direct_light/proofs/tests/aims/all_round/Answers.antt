use Rattle.std.proofs.Common.{◌∷◌, [], List, pos, arith}
use Rattle.std.proofs.lemmas.Int.{ints}
use Rattle.fx_base.specs.Ends.{Ends}
use Rattle.fx_base.specs.declared.Micro.{Micro}
use Rattle.photo_table.proofs.FromLists.{planes_of, gammas_of, intensities_of, whole_intensity}
use Rattle.direct_light.proofs.tests.aims.all_round.Goals as goal

pub new-requires-clause-planes : goal.new-requires-clause-planes
new-requires-clause-planes c =
    let p : Micro = record { 0 = pos 0 } in
    let ps : List Micro = (record { 0 = pos 90000000 }) ∷ (record { 0 = pos 180000000 }) ∷ (record { 0 = pos 270000000 }) ∷ [] in
    rw c.in_ok-planes.ensures.items (planes_of p ps (omega arith, (omega arith, (omega arith, tt))) (omega (arith, ints), (omega (arith, ints), (omega (arith, ints), (omega (arith, ints), tt)))) (omega arith, (omega arith, (omega arith, (omega arith, tt)))))

pub new-requires-clause-gammas : goal.new-requires-clause-gammas
new-requires-clause-gammas c =
    let g : Micro = record { 0 = pos 0 } in
    let gs : List Micro = (record { 0 = pos 60000000 }) ∷ (record { 0 = pos 180000000 }) ∷ [] in
    rw c.in_ok-gammas.ensures.items (gammas_of g gs (omega arith, (omega arith, tt)) (omega (arith, ints), (omega (arith, ints), (omega (arith, ints), tt))) (omega arith, (omega arith, (omega arith, tt))) (omega arith))

pub new-requires-clause-values : goal.new-requires-clause-values
new-requires-clause-values c =
    let vs : List Ends = c.whole.result ∷ c.whole-2.result ∷ c.whole-3.result ∷ c.whole-4.result ∷ c.whole-5.result ∷ c.whole-6.result ∷ c.whole-7.result ∷ c.whole-8.result ∷ c.whole-9.result ∷ c.whole-10.result ∷ c.whole-11.result ∷ c.whole-12.result ∷ [] in
    rw c.in_ok-values.ensures.items (intensities_of vs
    (whole_intensity c.whole.result 1000 c.whole.ensures.low c.whole.ensures.high (omega arith), (whole_intensity c.whole-2.result 600 c.whole-2.ensures.low c.whole-2.ensures.high (omega arith), (whole_intensity c.whole-3.result 20 c.whole-3.ensures.low c.whole-3.ensures.high (omega arith), (whole_intensity c.whole-4.result 1000 c.whole-4.ensures.low c.whole-4.ensures.high (omega arith), (whole_intensity c.whole-5.result 500 c.whole-5.ensures.low c.whole-5.ensures.high (omega arith), (whole_intensity c.whole-6.result 20 c.whole-6.ensures.low c.whole-6.ensures.high (omega arith), (whole_intensity c.whole-7.result 1000 c.whole-7.ensures.low c.whole-7.ensures.high (omega arith), (whole_intensity c.whole-8.result 300 c.whole-8.ensures.low c.whole-8.ensures.high (omega arith), (whole_intensity c.whole-9.result 20 c.whole-9.ensures.low c.whole-9.ensures.high (omega arith), (whole_intensity c.whole-10.result 1000 c.whole-10.ensures.low c.whole-10.ensures.high (omega arith), (whole_intensity c.whole-11.result 800 c.whole-11.ensures.low c.whole-11.ensures.high (omega arith), (whole_intensity c.whole-12.result 20 c.whole-12.ensures.low c.whole-12.ensures.high (omega arith), tt)))))))))))))
