use Rattle.std.proofs.Common.{◌<◌, ◌≤◌, arith, length}
use Rattle.fx_base.specs.Units.{millionths}
use Rattle.photo_table.specs.Table.{gamma, lower, upper, end_at}
use Rattle.photo_table.specs.Hull.{gamma_extreme}
use Rattle.photo_table.specs.Grid.{table_in}
use Rattle.photo_table.proofs.Lists.{count_is}
use Rattle.photo_table.proofs.Sweeps.{swept_start, swept_more, swept_end}
use Rattle.photo_table.proofs.grid.Grid.row.Goals as goal

pub loop-j-init : goal.loop-j-init
loop-j-init c =
    let t = table_in c.args.self.now in
    swept_start (gamma t) (length t.gammas) c.args.low c.args.high (end_at lower t (millionths c.args.x)) (end_at upper t (millionths c.args.x))
    c.count_up_to-first.result _ _ _ _ c.joined-part.result.lo c.joined-part.result.hi
    c.at.ensures.rounds c.at-2.ensures.rounds c.joined-part.ensures.low c.joined-part.ensures.high
    (rw c.deref.ensures.value at c.count_up_to-first.ensures.up_to)

pub loop-j-preserved : goal.loop-j-preserved
loop-j-preserved c =
    let t = table_in c.args.self.now in
    let j = c.loop-j.j in
    let e = count_is c.args.self.now.gammas.items in
    let few = rw c.deref-2.ensures.value at c.count_up_to-last.ensures.few in
    let within : j < length t.gammas = omega (arith, c.loop-j-test.true) in
    let above = rw c.deref.ensures.value at c.count_up_to-first.ensures.above in
    let up_to = rw c.deref-2.ensures.value at c.count_up_to-last.ensures.up_to in
    let from : c.args.low ≤ gamma t j = let a = above j c.loop-j.auto.j (omega arith) in omega arith in
    swept_more (gamma t) (length t.gammas) c.args.low c.args.high (end_at lower t (millionths c.args.x)) (end_at upper t (millionths c.args.x))
    j c.loop-j.part.lo c.loop-j.part.hi c.at-in-loop-j.result.lo c.at-in-loop-j.result.hi c.joined-part-in-loop-j.result.lo c.joined-part-in-loop-j.result.hi
    c.loop-j.invariant within from (up_to j c.loop-j-test.true) (rw c.gamma_at.ensures.at at c.at-in-loop-j.ensures.rounds)
    c.joined-part-in-loop-j.ensures.low c.joined-part-in-loop-j.ensures.high

pub returns : goal.returns
unfolding gamma_extreme
returns c =
    let t = table_in c.args.self.now in
    let e = count_is c.args.self.now.gammas.items in
    let above = rw c.deref-2.ensures.value at c.count_up_to-last.ensures.above in
    record {
      rounds = swept_end (gamma t) (length t.gammas) c.args.low c.args.high (end_at lower t (millionths c.args.x)) (end_at upper t (millionths c.args.x))
          c.loop-j.j c.loop-j.part.lo c.loop-j.part.hi c.loop-j.invariant
          (λ i from within. above i (omega (arith, c.loop-j-test.false)) (omega arith));
    }
