-- Every line so far is blank.
use Rattle.std.proofs.Common.{◌≡◌, ◌+◌, ◌-◌, drop, length}
use Rattle.eulumdat_read.specs.Cursors.{IsAt}
use Rattle.eulumdat_read.specs.Items.{all_blank}
use Rattle.eulumdat_read.specs.Lines.{lines_of}
use Rattle.eulumdat_read.proofs.values.read_end.Given as goal

abbrev pub invariant-loop-line : goal.invariant-loop-line
invariant-loop-line l = record {
  at : IsAt l.bytes l.cursor;
  so_far : all_blank (l.initial.cursor.line + 1) (drop l.initial.cursor.line (lines_of l.bytes)) ≡ all_blank (l.cursor.line + 1) (drop l.cursor.line (lines_of l.bytes));
}

abbrev pub decreases-loop-line : goal.decreases-loop-line
decreases-loop-line l = length l.bytes - l.cursor.at
