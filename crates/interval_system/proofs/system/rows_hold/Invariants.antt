use Rattle.std.proofs.Common.{ℕ, ◌<◌, get_or, []}
use Rattle.interval_system.specs.System.{IsRow}
use Rattle.interval_system.proofs.system.rows_hold.Given as goal

abbrev pub invariant-loop-i : goal.invariant-loop-i
invariant-loop-i l = (k : ℕ) → k < l.i → IsRow (get_or l.rows k [])
