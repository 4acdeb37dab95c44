-- What holds before each turn of the loops of `least_ends`.
use Rattle.grid_report.proofs.Leasts.{IsLeastSoFar}
use Rattle.grid_report.proofs.evenness.least_ends.Given as goal

abbrev pub invariant-loop-point : goal.invariant-loop-point
invariant-loop-point l = IsLeastSoFar l.values l.point-index l.least.low l.least.high 5070602400912917605986812821504
