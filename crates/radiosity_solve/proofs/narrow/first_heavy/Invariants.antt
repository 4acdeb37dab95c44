-- No row before this one is heavy.
use Rattle.std.proofs.Common.{ℕ, ◌<◌, ◌≤◌, get_or, []}
use Rattle.interval_system.specs.System.{upper_total, greatest_row_sum}
use Rattle.radiosity_solve.proofs.narrow.first_heavy.Given as goal

abbrev pub invariant-loop-i : goal.invariant-loop-i
invariant-loop-i l = (k : ℕ) → k < l.i → upper_total (get_or l.system.rows k []) ≤ greatest_row_sum
