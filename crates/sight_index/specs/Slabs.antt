-- The sixteen slabs of a room along one axis, each with two masks: the boxes that have begun at its end, and those that haven't ended
-- at its beginning. A slab touches the boxes that are in both.
use Rattle.std.specs.Prelude.{ℕ, ◌≡◌, ◌+◌, ◌*◌, ◌<◌, ◌≤◌, ◌↔◌, List, length, slice_index_or, bit_and, bit_or}
use Rattle.room_layout.specs.declared.room.Block.{Block}
use Rattle.room_layout.specs.declared.geometry.Size.{Size}
use Rattle.sight_index.specs.Cells.{begins}
use Rattle.sight_index.specs.Masks.{HasBit, IsMaskOf, SomeBelow}
use Rattle.sight_index.specs.declared.axis.Axis.{Axis}
use Rattle.sight_index.specs.declared.axis.Axis.TheVariants.{X, Y, Z}
use Rattle.sight_index.specs.declared.sides.Sides.{Sides}

-- what a size has along an axis
abbrev pub along : Axis → Size → ℕ
along X s = s.x
along Y s = s.y
along Z s = s.z

abbrev pub no_sides : Sides
no_sides = record { begun = 0; unended = 0 }

abbrev pub slab : List Sides → ℕ → Sides
slab slabs k = slice_index_or slabs k no_sides

-- the boxes that slab k touches
abbrev pub slab_mask : List Sides → ℕ → ℕ
slab_mask slabs k = bit_and (slab slabs k).begun (slab slabs k).unended

abbrev pub IsBegun : List Sides → ℕ → ℕ → Type 0
IsBegun slabs k b = HasBit (slab slabs k).begun b

abbrev pub IsUnended : List Sides → ℕ → ℕ → Type 0
IsUnended slabs k b = HasBit (slab slabs k).unended b

-- the masks of one slab
pub record IsSlabOf (axis : Axis) (edge k : ℕ) (blocks : List Block) (sides : Sides) : Type 0 where
  pub has_begun : IsMaskOf (λ b. along axis b.lo ≤ begins edge (k + 1)) blocks sides.begun
  pub has_not_ended : IsMaskOf (λ b. begins edge k ≤ along axis b.hi) blocks sides.unended

-- the slabs along an axis of a room with these boxes
pub record AreSlabsOf (axis : Axis) (edge : ℕ) (blocks : List Block) (slabs : List Sides) : Type 0 where
  pub count : length slabs ≡ 16
  pub each : (k : ℕ) → k < 16 → IsSlabOf axis edge k blocks (slab slabs k)

-- what holds of any boxes in a room: one that has begun stays so, one that hasn't ended hadn't before, and between begin and end there
-- is no gap
pub record AreSlabs (slabs : List Sides) : Type 0 where
  pub count : length slabs ≡ 16
  pub stays_begun : (k b : ℕ) → k + 1 < 16 → IsBegun slabs k b → IsBegun slabs (k + 1) b
  pub was_unended : (k b : ℕ) → k + 1 < 16 → IsUnended slabs (k + 1) b → IsUnended slabs k b
  pub unended_at_first : (b : ℕ) → IsBegun slabs 15 b → IsUnended slabs 0 b
  pub no_gap : (k b : ℕ) → k + 1 < 16 → IsBegun slabs 15 b → ¬ IsBegun slabs k b → IsUnended slabs (k + 1) b

-- no bit is set that isn't a box's
pub record AreOfBoxes (count : ℕ) (slabs : List Sides) : Type 0 where
  pub begun : (k b : ℕ) → k < 16 → IsBegun slabs k b → b < count

-- ---- what a place at so many half millimetres along the axis needs to know of the slabs

-- the boxes that have begun at the end of some slab that doesn't begin behind the place
pub record HaveBegun (edge : ℕ) (slabs : List Sides) (place mask : ℕ) : Type 0 where
  pub bits : (b : ℕ) → HasBit mask b ↔ SomeBelow 16 (λ k. (2 * begins edge k ≤ place) × IsBegun slabs k b)

-- the boxes that haven't ended at the beginning of some slab that doesn't end before the place
pub record HaveNotEnded (edge : ℕ) (slabs : List Sides) (place mask : ℕ) : Type 0 where
  pub bits : (b : ℕ) → HasBit mask b ↔ SomeBelow 16 (λ k. (place ≤ 2 * begins edge (k + 1)) × IsUnended slabs k b)

pub record AreSides (edge : ℕ) (slabs : List Sides) (place : ℕ) (sides : Sides) : Type 0 where
  pub have_begun : HaveBegun edge slabs place sides.begun
  pub have_not_ended : HaveNotEnded edge slabs place sides.unended

-- the boxes near one of two places or between them
abbrev pub near_sides : Sides → Sides → ℕ
near_sides s t = bit_and (bit_or s.begun t.begun) (bit_or s.unended t.unended)
