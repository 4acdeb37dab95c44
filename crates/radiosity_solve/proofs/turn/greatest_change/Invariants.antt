use Rattle.std.proofs.Common.{ℕ, ◌+◌, ◌<◌, ◌≤◌}
use Rattle.radiosity_solve.specs.Bounds.{tick_at}
use Rattle.radiosity_solve.proofs.turn.greatest_change.Given as goal

abbrev pub invariant-loop-i : goal.invariant-loop-i
invariant-loop-i l = record {
  down : (k : ℕ) → k < l.i → tick_at l.from k ≤ tick_at l.into k + l.most;
  up : (k : ℕ) → k < l.i → tick_at l.into k ≤ tick_at l.from k + l.most;
}
