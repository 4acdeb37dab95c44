use Rattle.std.proofs.Common.{arith}
use Rattle.fx_base.specs.Ends.{Ends}
use Rattle.fx_base.specs.Units.{natural}
use Rattle.photo_table.proofs.Greatest.{greatest_more, greatest_lower, greatest_upper}
use Rattle.photo_table.proofs.grid.Grid.greatest_ends.Goals as goal

pub loop-span-preserved : goal.loop-span-preserved
loop-span-preserved c =
    let vs = c.args.self.now.values.items in
    let within = rw c.deref-span-items.ensures.value at c.loop-span-test.true in
    let is = rw c.deref-span-items.ensures.value at c.span-item.is in
    let p = c.part_of-part.ensures in
    record {
      low = greatest_more (λ (e : Ends). natural e.lo) vs c.loop-span.span-index c.loop-span.greatest.lo c.span-item.result c.part_of-part.result.lo c.max.result
          c.loop-span.invariant.low within is c.part_of-part.ensures.low c.max.ensures;
      high = greatest_more (λ (e : Ends). natural e.hi) vs c.loop-span.span-index c.loop-span.greatest.hi c.span-item.result c.part_of-part.result.hi c.max-in-loop-span.result
          c.loop-span.invariant.high within is c.part_of-part.ensures.high c.max-in-loop-span.ensures;
      low_most = omega (arith, c.max.ensures, c.part_of-part.ensures.in_order, c.part_of-part.ensures.most, c.loop-span.invariant.low_most);
      high_most = omega (arith, c.max-in-loop-span.ensures, c.part_of-part.ensures.most, c.loop-span.invariant.high_most);
    }

pub returns-clause-low : goal.returns-clause-low
returns-clause-low c =
    let s = c.args.self.now in
    let all = rw c.deref-span-items.ensures.value at c.loop-span-test.false in
    let few = rw c.deref-span-items.ensures.value at c.loop-span.auto.span-index-end in
    greatest_lower s.planes.items s.gammas.items s.values.items c.loop-span.span-index c.loop-span.greatest.lo (omega (arith, all, few)) c.loop-span.invariant.low

pub returns-clause-high : goal.returns-clause-high
returns-clause-high c =
    let s = c.args.self.now in
    let all = rw c.deref-span-items.ensures.value at c.loop-span-test.false in
    let few = rw c.deref-span-items.ensures.value at c.loop-span.auto.span-index-end in
    greatest_upper s.planes.items s.gammas.items s.values.items c.loop-span.span-index c.loop-span.greatest.hi (omega (arith, all, few)) c.loop-span.invariant.high
