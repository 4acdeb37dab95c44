-- A row for each number that was counted.
use Rattle.std.proofs.Common.{◌≡◌, length}
use Rattle.fork_rows.proofs.tests.rows_of.Given as goal

abbrev pub invariant-loop-i : goal.invariant-loop-i
invariant-loop-i l = length l.rows.items ≡ l.i
