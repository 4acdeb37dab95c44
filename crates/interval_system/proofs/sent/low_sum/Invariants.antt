use Rattle.std.proofs.Common.{◌≡◌, ◌≤◌, ◌*◌, ◌^◌}
use Rattle.interval_system.specs.Sent.{sent_low}
use Rattle.interval_system.proofs.sent.low_sum.Given as goal

abbrev pub invariant-loop-j : goal.invariant-loop-j
invariant-loop-j l = record {
  so_far : l.sum ≡ sent_low l.weights l.light l.j;
  small : l.sum ≤ l.j * 2 ^ 90;
}
