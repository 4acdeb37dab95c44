use Rattle.std.proofs.Common.{ℕ, ◌+◌, ◌<◌, ◌≤◌}
use Rattle.interval_system.specs.Ticks.{tick_at}
use Rattle.radiosity_solve.proofs.trial.rises_little.Given as goal

abbrev pub invariant-loop-i : goal.invariant-loop-i
invariant-loop-i l = record {
  up : (k : ℕ) → k < l.i → tick_at l.low k ≤ tick_at l.high k;
  little : (k : ℕ) → k < l.i → tick_at l.high k ≤ tick_at l.low k + 16384;
}
