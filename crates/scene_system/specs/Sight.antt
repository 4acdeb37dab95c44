-- A room with the index of its boxes, and the vantages of its places.
use Rattle.std.specs.Prelude.{◌≡◌, pos, List, All, map}
use Rattle.room_layout.specs.Accepted.{IsAccepted}
use Rattle.room_layout.specs.declared.geometry.Point.{Point}
use Rattle.room_layout.specs.declared.room.Room.{Room}
use Rattle.sight_index.specs.Index.{IsIndexOf}
use Rattle.sight_index.specs.Slabs.{no_sides}
use Rattle.sight_index.specs.Vantages.{IsVantage}
use Rattle.sight_index.specs.declared.index.SightIndex.{SightIndex}
use Rattle.sight_index.specs.declared.vantage.Vantage.{Vantage}

-- an accepted room and the index of its boxes
pub record IsIndexed (room : Room) (index : SightIndex) : Type 0 where
  pub accepted : IsAccepted room
  pub boxes : IsIndexOf room.size room.blocks index

abbrev pub no_vantage : Vantage
no_vantage = record { at = record { x = pos 0; y = pos 0; z = pos 0 }; x = no_sides; y = no_sides; z = no_sides }

abbrev pub at_of : Vantage → Point
at_of v = v.at

-- the vantages of these points, in their order
pub record AreVantagesOf (index : SightIndex) (points : List Point) (vantages : List Vantage) : Type 0 where
  pub are : map at_of vantages ≡ points
  pub each : All (IsVantage index) vantages
