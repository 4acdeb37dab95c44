-- What holds before each turn of the loops of `put_points`.
use Rattle.report_form.specs.Writing.{text_of, IsBetween}
use Rattle.report_form.proofs.SoFar.{records_bytes, IsSoFar}
use Rattle.report_form.proofs.grid.put_points.Given as goal

abbrev pub invariant-loop-value : goal.invariant-loop-value
invariant-loop-value l = record { so_far : IsSoFar (records_bytes l.columns) l.points (text_of l.initial.writer) l.value-index l.index (text_of l.writer); between : IsBetween l.writer }
