use Rattle.std.proofs.Common.{◌≡◌, ◌≤◌, ◌*◌, ◌^◌}
use Rattle.interval_system.specs.Sent.{sent_high}
use Rattle.interval_system.proofs.sent.high_sum.Given as goal

abbrev pub invariant-loop-j : goal.invariant-loop-j
invariant-loop-j l = record {
  so_far : l.sum ≡ sent_high l.weights l.light l.j;
  small : l.sum ≤ l.j * 2 ^ 90;
}
