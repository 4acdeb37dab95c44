use Rattle.std.proofs.Common.{◌≡◌, replicate}
use Rattle.interval_system.specs.System.{no_weight}
use Rattle.interval_system.proofs.system.empty_rows.Given as goal

abbrev pub invariant-loop : goal.invariant-loop
invariant-loop l = l.rows.items ≡ replicate l.counter (replicate l.n no_weight)
