-- What is read, and what the rest gives after it.
use Rattle.std.proofs.Common.{◌≡◌, ◌+◌, ◌-◌, ◌<◌, [], length}
use Rattle.lm63_read.specs.Items.{items_of}
use Rattle.lm63_read.specs.Angles.{angles_at}
use Rattle.lm63_read.specs.Cursors.{IsAt}
use Rattle.lm63_read.proofs.angles.angles_in.Given as goal

abbrev pub invariant-loop-i : goal.invariant-loop-i
invariant-loop-i l = record {
  at : IsAt l.bytes l.cursor;
  ahead : l.cursor.count < l.k + l.i;
  after : 0 < l.i → l.cursor.count ≡ l.k + l.i - 1;
  size : length l.angles.items ≡ l.i;
  so_far : angles_at l.kind (items_of l.bytes) l.k [] l.n ≡ angles_at l.kind (items_of l.bytes) (l.k + l.i) l.angles.items (l.n - l.i);
}
