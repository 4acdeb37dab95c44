-- The lists of the turn make a table, and it is the one that was asked for.
use Rattle.std.proofs.Common.{arith, ◌≡◌, ◌*◌, ◌-◌, ◌∙◌, ◌∷◌, [], ap, length, List, ℕ}
use Rattle.fx_base.specs.declared.Micro.{Micro}
use Rattle.fx_base.specs.Ends.{Ends}
use Rattle.photo_table.specs.Kept.{table_of}
use Rattle.symmetry_expand.specs.AllRound.{joined}
use Rattle.symmetry_expand.specs.Measured.{lifted, micro}
use Rattle.symmetry_expand.specs.Steps.{start_of}
use Rattle.symmetry_expand.proofs.Planes.{lifted_length, lifted_rise, few_planes}
use Rattle.symmetry_expand.proofs.Joined.{ones_length}
use Rattle.symmetry_expand.proofs.Rounds.{base_reached, turn_planes_are, turn_angle, turn_steps}
use Rattle.symmetry_expand.proofs.Turned.{planes_given, values_given, rows_length, rows_bright, turn_is, turn_rows, few_gammas}
use Rattle.symmetry_expand.proofs.expansion.whole_turn.Goals as goal

count_is : (c : goal.In_ok-all_values) → c.args.times * (2 * (c.len-n.result - 1)) ≡ turn_steps (lifted c.args.measured.planes.items) c.args.times
count_is c = let e : c.len-n.result ≡ length (lifted c.args.measured.planes.items) = omega (arith, c.len-n.ensures, c.args.measured.planes.ok.0, lifted_length c.args.measured.planes.items) in ap (λ (z : ℕ). c.args.times * (2 * (z - 1))) e

start_is : (c : goal.In_ok-all_values) → c.start-from.result ≡ start_of (lifted c.args.measured.planes.items) c.args.base
start_is c = c.start-from.ensures.start ∙ ap (λ (qs : List Micro). start_of (lifted qs) c.args.base) c.deref.ensures.value

planes_are : (c : goal.In_ok-all_values) → c.in_ok-all_planes.all_planes.items
    ≡ joined (λ i. micro (turn_angle (lifted c.args.measured.planes.items) c.args.base i) ∷ []) (turn_steps (lifted c.args.measured.planes.items) c.args.times)
planes_are c =
    planes_given c.args.measured.planes.items c.deref-2.result.now c.in_ok-all_planes.all_planes.items c.start-from.result c.args.base _ _ c.deref-2.ensures.value (start_is c) (count_is c) c.in_ok-all_planes.ensures

values_are : (c : goal.In_ok-all_values) → c.in_ok-all_values.all_values.items
    ≡ turn_rows (lifted c.args.measured.planes.items) c.args.base (length c.args.measured.gammas.items) c.args.measured.values.items (turn_steps (lifted c.args.measured.planes.items) c.args.times)
values_are c =
    values_given (lifted c.args.measured.planes.items) c.args.measured.values.items c.deref-3.result.now c.in_ok-all_values.all_values.items c.start-from.result c.args.base (length c.args.measured.gammas.items) c.len.result _ _ _
    c.deref-3.ensures.value (start_is c) (omega (arith, c.len.ensures, c.args.measured.gammas.ok.0))
    (omega (arith, c.len-n.ensures, c.args.measured.planes.ok.0, lifted_length c.args.measured.planes.items)) (count_is c) c.in_ok-all_values.ensures

pub start-from-requires-clause-reached : goal.start-from-requires-clause-reached
start-from-requires-clause-reached c = rw c.deref.ensures.value (base_reached (lifted c.args.measured.planes.items) c.args.times c.args.base c.requires.round)

pub turn_values-requires-clause-few_planes : goal.turn_values-requires-clause-few_planes
turn_values-requires-clause-few_planes c =
    let ps = c.args.measured.planes in
    omega (arith, c.len-n.ensures, ps.ok.0, lifted_length ps.items, few_planes (lifted ps.items) (lifted_rise ps.items c.requires.rise))

pub turn_values-requires-clause-few_gammas : goal.turn_values-requires-clause-few_gammas
turn_values-requires-clause-few_gammas c = omega (arith, c.len.ensures, c.args.measured.gammas.ok.0, few_gammas c.args.measured.gammas.items c.requires.gammas)

pub new-requires-clause-planes : goal.new-requires-clause-planes
new-requires-clause-planes c =
    let ps = c.args.measured.planes.items in
    rw (planes_are c) (turn_planes_are (lifted ps) c.args.times c.args.base (lifted_rise ps c.requires.rise) c.requires.round)

pub new-requires-clause-values : goal.new-requires-clause-values
new-requires-clause-values c = rw (values_are c) (rows_bright (lifted c.args.measured.planes.items) c.args.base (length c.args.measured.gammas.items) _ c.args.measured.values.items c.requires.values)

pub new-requires-clause-all : goal.new-requires-clause-all
new-requires-clause-all c =
    let ps = c.args.measured.planes.items in
    let n = turn_steps (lifted ps) c.args.times in
    let x = λ (i : ℕ). micro (turn_angle (lifted ps) c.args.base i) in
    rw (values_are c, planes_are c, ones_length x n)
    (rows_length (lifted ps) c.args.base (length c.args.measured.gammas.items) n c.args.measured.values.items c.requires.round.two (rw (lifted_length ps) c.requires.all))

pub returns : goal.returns
returns c =
    let ps = c.args.measured.planes in
    let all = lifted_length ps.items in
    let count : c.args.times * (2 * (c.len-n.result - 1)) ≡ turn_steps (lifted ps.items) c.args.times =
    let e : c.len-n.result ≡ length (lifted ps.items) = omega (arith, c.len-n.ensures, ps.ok.0, all) in ap (λ (z : ℕ). c.args.times * (2 * (z - 1))) e in
    let start : c.start-from.result ≡ start_of (lifted ps.items) c.args.base = c.start-from.ensures.start ∙ ap (λ (qs : List Micro). start_of (lifted qs) c.args.base) c.deref.ensures.value in
    c.new.ensures
    ∙ ap (λ (qs : List Micro). table_of qs c.args.measured.gammas.items c.in_ok-all_values.all_values.items)
    (planes_given ps.items c.deref-2.result.now c.in_ok-all_planes.all_planes.items c.start-from.result c.args.base _ _ c.deref-2.ensures.value start count c.in_ok-all_planes.ensures)
    ∙ ap (λ (vs : List Ends). table_of (joined (λ i. micro (turn_angle (lifted ps.items) c.args.base i) ∷ []) (turn_steps (lifted ps.items) c.args.times)) c.args.measured.gammas.items vs)
    (values_given (lifted ps.items) c.args.measured.values.items c.deref-3.result.now c.in_ok-all_values.all_values.items c.start-from.result c.args.base (length c.args.measured.gammas.items) c.len.result _ _ _
    c.deref-3.ensures.value start (omega (arith, c.len.ensures, c.args.measured.gammas.ok.0)) (omega (arith, c.len-n.ensures, ps.ok.0, all)) count c.in_ok-all_values.ensures)
    ∙ turn_is ps.items c.args.measured.gammas.items c.args.measured.values.items c.args.times c.args.base
