-- A room cut into 16 by 16 by 16 cells: which cells a box touches, and which a segment may pass. Edges, cells and boxes are in
-- millimetres, places in half millimetres. Boxes, cells and the bounds of a segment are closed: a common border is enough.
use Rattle.std.specs.Prelude.{ℕ, ◌+◌, ◌*◌, ◌/◌, ◌<◌, ◌≤◌, ℤ, pos, ◌≤ℤ◌, min, max}
use Rattle.room_layout.specs.Place.{Place}
use Rattle.room_layout.specs.declared.geometry.Point.{Point}
use Rattle.room_layout.specs.declared.geometry.Size.{Size}
use Rattle.room_layout.specs.declared.room.Block.{Block}

-- where cell k of an edge begins, and the one before it ends
abbrev pub begins : ℕ → ℕ → ℕ
begins edge k = k * edge / 16

-- the numbers of a cell along the three axes
pub record IsCell (i j k : ℕ) : Type 0 where
  pub x : i < 16
  pub y : j < 16
  pub z : k < 16

-- ---- boxes

-- on one axis, what lies from lo to hi touches cell k
pub record TouchesOn (edge k lo hi : ℕ) : Type 0 where
  pub begun : lo ≤ begins edge (k + 1)
  pub unended : begins edge k ≤ hi

-- the box touches cell (i, j, k) of a room of this size
pub record Touches (room : Size) (i j k : ℕ) (b : Block) : Type 0 where
  pub x : TouchesOn room.x i b.lo.x b.hi.x
  pub y : TouchesOn room.y j b.lo.y b.hi.y
  pub z : TouchesOn room.z k b.lo.z b.hi.z

-- ---- segments

-- on one axis, the bounds of p and q touch cell k
pub record BoundsTouchOn (edge k p q : ℕ) : Type 0 where
  pub low : min p q ≤ 2 * begins edge (k + 1)
  pub high : 2 * begins edge k ≤ max p q

-- the bounds of the segment from p to q touch cell (i, j, k)
pub record BoundsTouch (room : Size) (i j k : ℕ) (p q : Place) : Type 0 where
  pub x : BoundsTouchOn room.x i p.x q.x
  pub y : BoundsTouchOn room.y j p.y q.y
  pub z : BoundsTouchOn room.z k p.z q.z

-- a coordinate in half mm lies along an edge in mm
abbrev pub IsAlong : ℕ → ℤ → Type 0
IsAlong edge z = (pos 0 ≤ℤ z) × (z ≤ℤ pos (2 * edge))

-- the point lies in a room of this size
pub record IsPointIn (room : Size) (p : Point) : Type 0 where
  pub x : IsAlong room.x p.x
  pub y : IsAlong room.y p.y
  pub z : IsAlong room.z p.z
