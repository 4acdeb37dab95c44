-- What holds before each turn of the loops of `push_points`.
use Rattle.std.proofs.Common.{string_bytes}
use Rattle.report_form.specs.Spelled.{point_lines}
use Rattle.report_form.proofs.SoFar.{IsSoFar}
use Rattle.report_form.proofs.lines.push_points.Given as goal

abbrev pub invariant-loop-value : goal.invariant-loop-value
invariant-loop-value l = IsSoFar (point_lines l.columns) l.points (string_bytes l.initial.text) l.value-index l.index (string_bytes l.text)
