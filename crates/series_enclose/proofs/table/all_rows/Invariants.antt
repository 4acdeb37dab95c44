use Rattle.series_enclose.proofs.Rows.{AreRowsSoFar}
use Rattle.series_enclose.proofs.table.all_rows.Given as goal

abbrev pub invariant-loop-k : goal.invariant-loop-k
invariant-loop-k l = AreRowsSoFar l.k l.rows.items
