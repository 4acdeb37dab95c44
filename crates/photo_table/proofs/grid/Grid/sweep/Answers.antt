use Rattle.std.proofs.Common.{◌+◌, ◌≤◌, arith}
use Rattle.fx_base.specs.Fraction.{lesser, greater}
use Rattle.fx_base.specs.Units.{millionths, micros_between}
use Rattle.photo_table.specs.Table.{plane, planes_to, lower, upper}
use Rattle.photo_table.specs.Hull.{gamma_extreme, plane_extreme}
use Rattle.photo_table.specs.Grid.{table_in}
use Rattle.photo_table.proofs.Lists.{few_planes}
use Rattle.photo_table.proofs.Between.{millionths_le}
use Rattle.photo_table.proofs.Tables.{plane_le, within_planes}
use Rattle.photo_table.proofs.Sweeps.{swept_start, swept_more, swept_end}
use Rattle.photo_table.proofs.grid.Grid.sweep.Goals as goal

pub overflow_step-i : goal.overflow_step-i
overflow_step-i c = let s = c.args.self.now in
    let few = few_planes s.planes.items s.gammas.items s.values.items s.kept in omega (arith, c.piece-first.ensures.few)

pub overflow_add-i-end : goal.overflow_add-i-end
overflow_add-i-end c = let s = c.args.self.now in
    let few = few_planes s.planes.items s.gammas.items s.values.items s.kept in omega (arith, c.piece-last.ensures.few)

pub loop-i-init : goal.loop-i-init
loop-i-init c =
    let t = table_in c.args.self.now in
    let g = micros_between c.args.low c.args.high in
    swept_start (plane t) (planes_to t (millionths c.args.right)) c.args.left c.args.right (gamma_extreme lesser lower t g) (gamma_extreme greater upper t g)
    (c.piece-first.result + 1) _ _ _ _ c.joined-part.result.lo c.joined-part.result.hi
    c.row.ensures.rounds c.row-2.ensures.rounds c.joined-part.ensures.low c.joined-part.ensures.high
    (λ i p. let a = plane_le t c.args.self.now.kept.is_table i c.piece-first.result (omega arith) in omega (arith, a, c.piece-first.ensures.low))

pub row-requires-in-loop-i-clause-right : goal.row-requires-in-loop-i-clause-right
row-requires-in-loop-i-clause-right c =
    let t = table_in c.args.self.now in
    let a = plane_le t c.args.self.now.kept.is_table c.loop-i.i (c.loop-i.i + 1) (omega arith) in omega (arith, a, c.plane_at.ensures)

pub loop-i-preserved : goal.loop-i-preserved
loop-i-preserved c =
    let t = table_in c.args.self.now in
    let is = c.args.self.now.kept.is_table in
    let g = micros_between c.args.low c.args.high in
    let i = c.loop-i.i in
    let from : c.args.left ≤ plane t i = let a = plane_le t is (c.piece-first.result + 1) i c.loop-i.auto.i in omega (arith, a, c.piece-first.ensures.high) in
    let to : plane t i ≤ c.args.right = let a = plane_le t is i c.piece-last.result (omega (arith, c.loop-i-test.true)) in omega (arith, a, c.piece-last.ensures.low) in
    let within = within_planes t is i (millionths c.args.right) (millionths_le (plane t i) c.args.right to) in
    swept_more (plane t) (planes_to t (millionths c.args.right)) c.args.left c.args.right (gamma_extreme lesser lower t g) (gamma_extreme greater upper t g)
    i c.loop-i.part.lo c.loop-i.part.hi c.row-in-loop-i.result.lo c.row-in-loop-i.result.hi c.joined-part-in-loop-i.result.lo c.joined-part-in-loop-i.result.hi
    c.loop-i.invariant (omega arith) from to (rw c.plane_at.ensures at c.row-in-loop-i.ensures.rounds)
    c.joined-part-in-loop-i.ensures.low c.joined-part-in-loop-i.ensures.high

pub returns : goal.returns
unfolding plane_extreme
returns c =
    let t = table_in c.args.self.now in
    let is = c.args.self.now.kept.is_table in
    let g = micros_between c.args.low c.args.high in
    record {
      rounds = swept_end (plane t) (planes_to t (millionths c.args.right)) c.args.left c.args.right (gamma_extreme lesser lower t g) (gamma_extreme greater upper t g)
          c.loop-i.i c.loop-i.part.lo c.loop-i.part.hi c.loop-i.invariant
          (λ i from within. let a = plane_le t is (c.piece-last.result + 1) i (omega (arith, c.loop-i-test.false)) in omega (arith, a, c.piece-last.ensures.high));
    }
