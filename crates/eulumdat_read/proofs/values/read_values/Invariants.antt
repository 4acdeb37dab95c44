-- What was read of the run, and what the rest gives.
use Rattle.std.proofs.Common.{◌≡◌, ◌+◌, ◌<◌}
use Rattle.eulumdat_read.specs.Cursors.{IsAt}
use Rattle.eulumdat_read.specs.Lines.{lines_of}
use Rattle.eulumdat_read.specs.Runs.{ReadSoFar}
use Rattle.eulumdat_read.proofs.values.read_values.Given as goal

abbrev pub invariant-loop-i : goal.invariant-loop-i
invariant-loop-i l = record {
  at : IsAt l.bytes l.cursor;
  before : l.cursor.line < l.k + l.i;
  after : 0 < l.i → l.cursor.line + 1 ≡ l.k + l.i;
  read : ReadSoFar (lines_of l.bytes) l.k l.factor l.n l.i l.values.items;
}
