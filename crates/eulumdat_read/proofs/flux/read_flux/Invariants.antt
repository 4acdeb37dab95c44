-- What was read of the run, and what the rest gives.
use Rattle.std.proofs.Common.{◌≡◌, ◌+◌, ◌*◌, ◌<◌}
use Rattle.eulumdat_read.specs.Cursors.{IsAt}
use Rattle.eulumdat_read.specs.Lines.{lines_of}
use Rattle.eulumdat_read.specs.Runs.{LitSoFar}
use Rattle.eulumdat_read.proofs.flux.read_flux.Given as goal

abbrev pub invariant-loop-i : goal.invariant-loop-i
invariant-loop-i l = record {
  at : IsAt l.bytes l.cursor;
  before : l.cursor.line < 29 + 6 * l.i;
  after : 0 < l.i → l.cursor.line + 6 ≡ 29 + 6 * l.i;
  lit : LitSoFar (lines_of l.bytes) l.lamp_set l.sets l.i l.chosen;
}
