-- What is read, and what the rest gives after it.
use Rattle.std.proofs.Common.{◌≡◌, ◌+◌, ◌-◌, ◌<◌}
use Rattle.lm63_read.specs.Items.{items_of}
use Rattle.lm63_read.specs.Cursors.{IsAt}
use Rattle.lm63_read.specs.Spans.{ReadSoFar}
use Rattle.lm63_read.proofs.values.values_in.Given as goal

abbrev pub invariant-loop-i : goal.invariant-loop-i
invariant-loop-i l = record {
  at : IsAt l.bytes l.cursor;
  ahead : l.cursor.count < l.k + l.i;
  after : 0 < l.i → l.cursor.count ≡ l.k + l.i - 1;
  so_far : ReadSoFar (items_of l.bytes) l.k l.factor l.n l.i l.spans.items;
}
