-- What is kept of a place, so that boxes near a segment are found from its two ends alone.
use Rattle.room_layout.specs.Place.{place_of}
use Rattle.sight_index.specs.Cells.{IsPointIn}
use Rattle.sight_index.specs.Index.{size_of}
use Rattle.sight_index.specs.Slabs.{AreSides}
use Rattle.sight_index.specs.declared.index.SightIndex.{SightIndex}
use Rattle.sight_index.specs.declared.vantage.Vantage.{Vantage}

-- a place in the room of the index, with its masks
pub record IsVantage (index : SightIndex) (v : Vantage) : Type 0 where
  pub within : IsPointIn (size_of index) v.at
  pub x : AreSides index.x.edge index.x.kept.items (place_of v.at).x v.x
  pub y : AreSides index.y.edge index.y.kept.items (place_of v.at).y v.y
  pub z : AreSides index.z.edge index.z.kept.items (place_of v.at).z v.z
