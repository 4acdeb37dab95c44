-- The angle of a step.
use Rattle.std.proofs.Common.{arith, ◌-◌, ◌*◌, ◌/◌, ◌%◌, ◌≤◌, ◌<◌, ◌≡◌, ◌∙◌, length, sym, slice_index_or}
use Rattle.symmetry_expand.specs.Measured.{lifted}
use Rattle.symmetry_expand.proofs.Planes.{lifted_length, lifted_rise, first_is, at_most_last}
use Rattle.symmetry_expand.proofs.Zigzag.{zig_short, zig_long, few_trips, trips_most}
use Rattle.symmetry_expand.proofs.steps.step.Goals as goal

pub overflow_mul-trips-3 : goal.overflow_mul-trips-3
overflow_mul-trips-3 c =
    let ps = c.args.planes.now in
    let n = length ps - 1 in
    let q : c.args.i / (2 * n) ≤ 4 = few_trips n c.args.i (omega (arith, c.requires.two)) (omega (arith, c.requires.few, lifted_length ps)) in
    omega (arith, trips_most c.lifted_at-last.result c.args.first (c.args.i / (2 * n)) c.lifted_at-last.ensures.most q)

pub overflow_add-result : goal.overflow_add-result
overflow_add-result c =
    let ps = c.args.planes.now in
    let n = length ps - 1 in
    let q : c.args.i / (2 * n) ≤ 4 = few_trips n c.args.i (omega (arith, c.requires.two)) (omega (arith, c.requires.few, lifted_length ps)) in
    omega (arith, trips_most c.lifted_at-last.result c.args.first (c.args.i / (2 * n)) c.lifted_at-last.ensures.most q, c.lifted_at.ensures.most)

pub overflow_add-result-else-r-n : goal.overflow_add-result-else-r-n
overflow_add-result-else-r-n c =
    let ps = c.args.planes.now in
    let n = length ps - 1 in
    let q : c.args.i / (2 * n) ≤ 4 = few_trips n c.args.i (omega (arith, c.requires.two)) (omega (arith, c.requires.few, lifted_length ps)) in
    omega (arith, trips_most c.lifted_at-last.result c.args.first (c.args.i / (2 * n)) c.lifted_at-last.ensures.most q, c.lifted_at-last.ensures.most)

pub overflow_sub-result : goal.overflow_sub-result
overflow_sub-result c =
    let ps = c.args.planes.now in
    let n = length ps - 1 in
    let k = 2 * n - c.args.i % (2 * n) in
    let some : 0 < 2 * n = omega (arith, c.requires.two) in
    let most = rw (lifted_length ps) at (at_most_last (lifted ps) (lifted_rise ps c.requires.rise) k (omega (arith, c.if-r-n.false, c.requires.two, lifted_length ps))) in
    omega (arith, most, c.lifted_at-last.ensures.at, c.lifted_at-else-r-n.ensures.at)

pub returns-then-r-n-clause-at : goal.returns-then-r-n-clause-at
returns-then-r-n-clause-at c =
    let ps = c.args.planes.now in
    let first : c.args.first ≡ slice_index_or (lifted ps) 0 0 = c.requires.first ∙ sym (first_is ps c.requires.rise.some) in
    let short = zig_short (lifted ps) c.args.i (rw (lifted_length ps) c.if-r-n.true) in
    rw (first, c.lifted_at-last.ensures.at, c.lifted_at.ensures.at) (rw (lifted_length ps) at short)

pub returns-then-r-n-clause-most : goal.returns-then-r-n-clause-most
returns-then-r-n-clause-most c =
    let ps = c.args.planes.now in
    let n = length ps - 1 in
    let q : c.args.i / (2 * n) ≤ 4 = few_trips n c.args.i (omega (arith, c.requires.two)) (omega (arith, c.requires.few, lifted_length ps)) in
    omega (arith, trips_most c.lifted_at-last.result c.args.first (c.args.i / (2 * n)) c.lifted_at-last.ensures.most q, c.lifted_at.ensures.most)

pub returns-else-r-n-clause-at : goal.returns-else-r-n-clause-at
returns-else-r-n-clause-at c =
    let ps = c.args.planes.now in
    let n = length ps - 1 in
    let k = 2 * n - c.args.i % (2 * n) in
    let some : 0 < 2 * n = omega (arith, c.requires.two) in
    let most = rw (lifted_length ps) at (at_most_last (lifted ps) (lifted_rise ps c.requires.rise) k (omega (arith, c.if-r-n.false, c.requires.two, lifted_length ps))) in
    let first : c.args.first ≡ slice_index_or (lifted ps) 0 0 = c.requires.first ∙ sym (first_is ps c.requires.rise.some) in
    let long = rw (lifted_length ps) at (zig_long (lifted ps) c.args.i (rw (lifted_length ps) c.if-r-n.false)) in
    rw (first, c.lifted_at-last.ensures.at, c.lifted_at-else-r-n.ensures.at) (omega (arith, long, most))

pub returns-else-r-n-clause-most : goal.returns-else-r-n-clause-most
returns-else-r-n-clause-most c =
    let ps = c.args.planes.now in
    let n = length ps - 1 in
    let q : c.args.i / (2 * n) ≤ 4 = few_trips n c.args.i (omega (arith, c.requires.two)) (omega (arith, c.requires.few, lifted_length ps)) in
    omega (arith, trips_most c.lifted_at-last.result c.args.first (c.args.i / (2 * n)) c.lifted_at-last.ensures.most q, c.lifted_at-last.ensures.most)
