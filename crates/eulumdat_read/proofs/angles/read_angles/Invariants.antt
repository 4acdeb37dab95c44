-- What was read of the run, and what the rest gives.
use Rattle.std.proofs.Common.{◌≡◌, ◌+◌, ◌-◌, ◌<◌, ◌≤◌, []}
use Rattle.eulumdat_read.specs.Cursors.{IsAt}
use Rattle.eulumdat_read.specs.Items.{angles_at}
use Rattle.eulumdat_read.specs.Lines.{lines_of}
use Rattle.eulumdat_read.specs.Runs.{AreAngles}
use Rattle.eulumdat_read.proofs.angles.read_angles.Given as goal

abbrev pub invariant-loop-i : goal.invariant-loop-i
invariant-loop-i l = record {
  at : IsAt l.bytes l.cursor;
  before : l.cursor.line < l.k + l.i;
  after : 0 < l.i → l.cursor.line + 1 ≡ l.k + l.i;
  so_far : angles_at (lines_of l.bytes) l.k l.most 0 [] l.n ≡ angles_at (lines_of l.bytes) (l.k + l.i) l.most l.least l.angles.items (l.n - l.i);
  run : AreAngles l.i l.least l.angles.items;
  least : l.least ≤ l.most + 1;
}
