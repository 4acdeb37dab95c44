-- What holds before each turn of the loops of `printed_values`.
use Rattle.std.proofs.Common.{◌≡◌, map, take}
use Rattle.grid_report.specs.Reports.{printed_value}
use Rattle.grid_report.proofs.results.printed_values.Given as goal

abbrev pub invariant-loop-point : goal.invariant-loop-point
invariant-loop-point l = l.printed.items ≡ map printed_value (take l.point-index l.values)
