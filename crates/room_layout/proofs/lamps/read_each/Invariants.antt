use Rattle.std.proofs.Common.{◌≡◌, ◌≤◌, drop, map, length, []}
use Rattle.toml.specs.View.{view}
use Rattle.room_layout.specs.Layout.{lamps_from}
use Rattle.room_layout.proofs.Elements.{with_lamps}
use Rattle.room_layout.proofs.lamps.read_each.Given as goal

abbrev pub invariant-loop-i : goal.invariant-loop-i
invariant-loop-i l = record {
  so_far : lamps_from l.room 0 [] (map view l.values) ≡ with_lamps l.lamps.items (lamps_from l.room l.i l.files.items (map view (drop l.i l.values)));
  few : length l.files.items ≤ 16;
}
