use Rattle.std.proofs.Common.{◌≡◌, drop, map}
use Rattle.toml.specs.View.{view}
use Rattle.room_layout.specs.Layout.{blocks_from}
use Rattle.room_layout.proofs.Elements.{with_blocks}
use Rattle.room_layout.proofs.blocks.read_each.Given as goal

abbrev pub invariant-loop-i : goal.invariant-loop-i
invariant-loop-i l = blocks_from l.room 0 (map view l.boxes) ≡ with_blocks l.blocks.items (blocks_from l.room l.i (map view (drop l.i l.boxes)))
