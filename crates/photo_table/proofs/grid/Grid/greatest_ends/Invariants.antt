use Rattle.std.proofs.Common.{◌≤◌}
use Rattle.fx_base.specs.Ends.{Ends}
use Rattle.fx_base.specs.Units.{natural}
use Rattle.photo_table.proofs.Greatest.{GreatestSoFar}
use Rattle.photo_table.proofs.grid.Grid.greatest_ends.Given as goal

abbrev pub invariant-loop-span : goal.invariant-loop-span
invariant-loop-span l = record {
  low : GreatestSoFar (λ (e : Ends). natural e.lo) l.self.values.items l.span-index l.greatest.lo;
  high : GreatestSoFar (λ (e : Ends). natural e.hi) l.self.values.items l.span-index l.greatest.hi;
  low_most : l.greatest.lo ≤ 687194767360000000;
  high_most : l.greatest.hi ≤ 687194767360000000;
}
