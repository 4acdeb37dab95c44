-- The lines before line k are passed over.
use Rattle.std.proofs.Common.{◌<◌, ◌-◌}
use Rattle.eulumdat_read.specs.Cursors.{IsAt}
use Rattle.eulumdat_read.proofs.line.read_line.Given as goal

abbrev pub invariant-loop-cursor : goal.invariant-loop-cursor
invariant-loop-cursor l = record { at : IsAt l.bytes l.cursor; before : l.cursor.line < l.k }

abbrev pub decreases-loop-cursor : goal.decreases-loop-cursor
decreases-loop-cursor l = l.k - l.cursor.line
