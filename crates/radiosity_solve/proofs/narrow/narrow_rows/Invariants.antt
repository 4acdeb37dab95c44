-- As many rows are reserved as were counted.
use Rattle.std.proofs.Common.{◌≡◌, length}
use Rattle.radiosity_solve.proofs.narrow.narrow_rows.Given as goal

abbrev pub invariant-loop : goal.invariant-loop
invariant-loop g l = length l.rows.items ≡ l.counter
