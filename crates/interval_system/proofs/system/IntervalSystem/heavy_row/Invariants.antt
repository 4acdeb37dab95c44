use Rattle.std.proofs.Common.{ℕ, ◌<◌, ◌≤◌, get_or, []}
use Rattle.interval_system.specs.System.{upper_total, greatest_row_sum}
use Rattle.interval_system.proofs.system.IntervalSystem.heavy_row.Given as goal

abbrev pub invariant-loop-i : goal.invariant-loop-i
invariant-loop-i l = (k : ℕ) → k < l.i → upper_total (get_or l.self-inside.rows.items k []) ≤ greatest_row_sum
