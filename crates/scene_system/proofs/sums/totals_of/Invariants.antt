-- What holds before each turn of the loops of `totals_of`.
use Rattle.std.proofs.Common.{take}
use Rattle.scene_system.proofs.Totals.{AreTotals}
use Rattle.scene_system.proofs.sums.totals_of.Given as goal

abbrev pub invariant-loop-value : goal.invariant-loop-value
invariant-loop-value l = AreTotals (take l.value-index l.values) l.value-index l.totals.low l.totals.high l.totals.count
