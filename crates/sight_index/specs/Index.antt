-- What an index is of a room's boxes, and which of them are near a segment.
use Rattle.std.specs.Prelude.{ℕ, ◌≡◌, List, length, bit_and}
use Rattle.room_layout.specs.Place.{place_of}
use Rattle.room_layout.specs.declared.geometry.Point.{Point}
use Rattle.room_layout.specs.declared.geometry.Size.{Size}
use Rattle.room_layout.specs.declared.room.Block.{Block}
use Rattle.sight_index.specs.Cells.{IsCell, Touches, BoundsTouch}
use Rattle.sight_index.specs.Masks.{HasBit, IsMaskOf}
use Rattle.sight_index.specs.Slabs.{slab_mask}
use Rattle.sight_index.specs.declared.index.SightIndex.{SightIndex}

-- the size of its room
abbrev pub size_of : SightIndex → Size
size_of index = record { x = index.x.edge; y = index.y.edge; z = index.z.edge }

-- how many boxes it knows
abbrev pub count_of : SightIndex → ℕ
count_of index = index.count

-- the mask of cell (i, j, k)
unfoldable pub mask_at : SightIndex → ℕ → ℕ → ℕ → ℕ
mask_at index i j k =
    bit_and (bit_and (slab_mask index.x.kept.items i) (slab_mask index.y.kept.items j)) (slab_mask index.z.kept.items k)

-- the index of these boxes in a room of this size: the mask of each cell has the boxes that touch the cell
pub record IsIndexOf (room : Size) (blocks : List Block) (index : SightIndex) : Type 0 where
  pub size : size_of index ≡ room
  pub count : count_of index ≡ length blocks
  pub cells : (i j k : ℕ) → IsCell i j k → IsMaskOf (Touches room i j k) blocks (mask_at index i j k)

-- box b is near the segment from p to q: it is in the mask of a cell that the segment's bounds touch
pub record IsNear (index : SightIndex) (p q : Point) (b : ℕ) : Type 0 where
  pub i : ℕ
  pub j : ℕ
  pub k : ℕ
  pub cell : IsCell i j k
  pub touched : BoundsTouch (size_of index) i j k (place_of p) (place_of q)
  pub has : HasBit (mask_at index i j k) b
