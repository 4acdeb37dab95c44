-- The item that is sought lies ahead.
use Rattle.std.proofs.Common.{◌<◌, ◌-◌}
use Rattle.lm63_read.specs.Cursors.{IsAt}
use Rattle.lm63_read.proofs.items.read_item.Given as goal

abbrev pub invariant-loop-cursor : goal.invariant-loop-cursor
invariant-loop-cursor l = record { at : IsAt l.bytes l.cursor; ahead : l.cursor.count < l.k }

abbrev pub decreases-loop-cursor : goal.decreases-loop-cursor
decreases-loop-cursor l = l.k - l.cursor.count
