-- What ties the test of a box to the relation.
use Rattle.std.specs.Prelude.{◌↔◌, IsTrue}
use Rattle.room_layout.specs.Place.{Place}
use Rattle.room_layout.specs.declared.room.Block.{Block}
use Rattle.sight_line.specs.Sight.{MeetsBox, meets_box}

-- the test is true exactly where some point of the segment lies in the open inside of the box
abbrev pub SightIsDecided : Type 0
SightIsDecided = (p q : Place) (b : Block) → IsTrue (meets_box p q b) ↔ MeetsBox p q b
