-- Cells, masks and near boxes in a room of 3000 mm on each edge with two boxes, from 100 to 200 and from 1000 to 2000 mm on each axis;
-- the rows are worked out by hand where nothing else is said.
use Rattle.std.specs.Prelude.{ℕ, zero, suc, ◌≡◌, ◌+◌, ◌*◌, ◌≤◌, ◌↔◌, pos, List, [], ◌∷◌, map, replicate, refl, slice_get, IsSomeAnd}
use Rattle.std.proofs.Common.{arith, lit<, lit≤}
use Rattle.std.proofs.lemmas.Int.{ints}
use Rattle.std.proofs.lemmas.Nat.Bits.{bit_at_above}
use Rattle.room_layout.specs.Place.{place_of}
use Rattle.room_layout.specs.declared.geometry.Point.{Point}
use Rattle.room_layout.specs.declared.geometry.Size.{Size}
use Rattle.room_layout.specs.declared.room.Block.{Block}
use Rattle.sight_index.specs.Cells.{begins, BoundsTouch, IsCell, IsPointIn, Touches, TouchesOn}
use Rattle.sight_index.specs.Index.{IsIndexOf, IsNear}
use Rattle.sight_index.specs.Masks.{HasBit, IsMaskOf, SomeBelow}
use Rattle.sight_index.specs.Slabs.{near_sides, no_sides, slab_mask, AreSlabs, IsSlabOf, IsUnended}
use Rattle.sight_index.specs.declared.axis.Axis.TheVariants.{X}
use Rattle.sight_index.specs.declared.index.SightIndex.{SightIndex}

abbrev cube : Size
cube = record { x = 3000; y = 3000; z = 3000 }

abbrev box : ℕ → ℕ → Block
box lo hi = record { lo = record { x = lo; y = lo; z = lo }; hi = record { x = hi; y = hi; z = hi }; reflect = 0 }

abbrev boxes : List Block
boxes = box 100 200 ∷ box 1000 2000 ∷ []

-- from wall to wall through the middle of the second box
abbrev from : Point
from = record { x = pos 0; y = pos 3000; z = pos 3000 }

abbrev to : Point
to = record { x = pos 6000; y = pos 3000; z = pos 3000 }

-- ---- cells

-- the borders of an edge that isn't a multiple of 16: `border` in expected/cells.py
odd_borders : map (begins 1001) (0 ∷ 1 ∷ 2 ∷ 3 ∷ 7 ∷ 8 ∷ 9 ∷ 15 ∷ 16 ∷ []) ≡ 0 ∷ 62 ∷ 125 ∷ 187 ∷ 437 ∷ 500 ∷ 563 ∷ 938 ∷ 1001 ∷ []
odd_borders = refl

-- a box in the last millimetre of that edge touches its last cell
in_the_last_cell : TouchesOn 1001 15 1000 1001
in_the_last_cell = record { begun = lit≤ tt; unended = lit≤ tt }

-- from one border to the next: the cells on both sides of it, and no further
at_a_border : TouchesOn 1001 3 250 312 × TouchesOn 1001 5 250 312
at_a_border = (record { begun = lit≤ tt; unended = lit≤ tt }, record { begun = lit≤ tt; unended = lit≤ tt })

past_a_border : ¬ TouchesOn 1001 6 250 312
past_a_border t = absurd (omega (arith, t.unended))

before_a_border : ¬ TouchesOn 1001 2 250 312
before_a_border t = absurd (omega (arith, t.begun))

touches_first : Touches cube 0 0 0 (box 100 200)
touches_first = record {
  x = record { begun = lit≤ tt; unended = lit≤ tt };
  y = record { begun = lit≤ tt; unended = lit≤ tt };
  z = record { begun = lit≤ tt; unended = lit≤ tt };
}

touches_middle : Touches cube 8 8 8 (box 1000 2000)
touches_middle = record {
  x = record { begun = lit≤ tt; unended = lit≤ tt };
  y = record { begun = lit≤ tt; unended = lit≤ tt };
  z = record { begun = lit≤ tt; unended = lit≤ tt };
}

small_is_far : ¬ Touches cube 8 8 8 (box 100 200)
small_is_far t = absurd (omega (arith, t.x.unended))

-- the segment runs along the border of the cells 7 and 8 of y and z
middle_touched : BoundsTouch cube 8 8 8 (place_of from) (place_of to)
middle_touched = record {
  x = record { low = lit≤ tt; high = lit≤ tt };
  y = record { low = lit≤ tt; high = lit≤ tt };
  z = record { low = lit≤ tt; high = lit≤ tt };
}

next_not_touched : ¬ BoundsTouch cube 8 9 8 (place_of from) (place_of to)
next_not_touched t = absurd (omega (arith, t.y.high))

to_is_in : IsPointIn cube to
to_is_in = record {
  x = (omega (arith, ints), omega (arith, ints));
  y = (omega (arith, ints), omega (arith, ints));
  z = (omega (arith, ints), omega (arith, ints));
}

last_cell : IsCell 15 15 15
last_cell = record { x = lit< tt; y = lit< tt; z = lit< tt }

-- ---- masks

no_third : (b : ℕ) → ¬ HasBit 3 (suc (suc b))
no_third b h = let z = bit_at_above 3 2 (suc (suc b)) (omega arith) (omega arith) in absurd (omega arith)

no_more : (b : ℕ) → ¬ HasBit 2 (suc (suc b))
no_more b h = let z = bit_at_above 2 2 (suc (suc b)) (omega arith) (omega arith) in absurd (omega arith)

-- of the two boxes the second touches the middle cell, and the mask is 2
middle_bits : (b : ℕ) → HasBit 2 b ↔ IsSomeAnd (slice_get boxes b) (Touches cube 8 8 8)
middle_bits zero = (λ h. absurd (omega (arith, h)), λ t. absurd (small_is_far t))
middle_bits (suc zero) = (λ h. touches_middle, λ t. refl)
middle_bits (suc (suc b)) = (λ h. absurd (no_more b h), λ t. absurd t)

middle_mask : IsMaskOf (Touches cube 8 8 8) boxes 2
middle_mask = record { bits = middle_bits }

some_below : SomeBelow 16 (λ k. k * k ≡ 81)
some_below = record { at = 9; below = lit< tt; holds = refl }

-- ---- slabs

-- both boxes have begun at the end of slab 8, and the first has ended at its beginning
begun_bits : (b : ℕ) → HasBit 3 b ↔ IsSomeAnd (slice_get boxes b) (λ x. x.lo.x ≤ begins 3000 9)
begun_bits zero = (λ h. lit≤ tt, λ t. refl)
begun_bits (suc zero) = (λ h. lit≤ tt, λ t. refl)
begun_bits (suc (suc b)) = (λ h. absurd (no_third b h), λ t. absurd t)

unended_bits : (b : ℕ) → HasBit 2 b ↔ IsSomeAnd (slice_get boxes b) (λ x. begins 3000 8 ≤ x.hi.x)
unended_bits zero = (λ h. absurd (omega (arith, h)), λ t. absurd (omega (arith, t)))
unended_bits (suc zero) = (λ h. lit≤ tt, λ t. refl)
unended_bits (suc (suc b)) = (λ h. absurd (no_more b h), λ t. absurd t)

middle_slab : IsSlabOf X 3000 8 boxes (record { begun = 3; unended = 2 })
middle_slab = record { has_begun = record { bits = begun_bits }; has_not_ended = record { bits = unended_bits } }

touched_by_it : slab_mask (no_sides ∷ record { begun = 3; unended = 2 } ∷ []) 1 ≡ 2
touched_by_it = refl

-- a box that begins in one slab and ends before it isn't a box
gap_is_refused : ¬ AreSlabs (replicate 16 (record { begun = 1; unended = 0 }))
gap_is_refused a = let h : IsUnended (replicate 16 (record { begun = 1; unended = 0 })) 0 0 = a.unended_at_first 0 refl in absurd (omega (arith, h))

-- between a place where box 0 has begun and none has ended, and one where box 1 has begun and box 0 has ended
between_places : near_sides (record { begun = 1; unended = 3 }) (record { begun = 3; unended = 2 }) ≡ 3
between_places = refl

behind_both : near_sides (record { begun = 3; unended = 2 }) (record { begun = 3; unended = 0 }) ≡ 2
behind_both = refl

-- ---- near boxes, by any index of the two

middle_is_near : (index : SightIndex) → IsIndexOf cube boxes index → IsNear index from to 1
middle_is_near index is = record {
  i = 8;
  j = 8;
  k = 8;
  cell = record { x = lit< tt; y = lit< tt; z = lit< tt };
  touched = rw is.size middle_touched;
  has = ((is.cells 8 8 8 (record { x = lit< tt; y = lit< tt; z = lit< tt })).bits 1).1 touches_middle;
}

-- a slab that ends at 1500 mm or later doesn't begin by 200
far_slab : (k : ℕ) → 1500 ≤ begins 3000 (k + 1) → ¬ (begins 3000 k ≤ 200)
far_slab k far near = absurd (omega arith)

small_is_not_near : (index : SightIndex) → IsIndexOf cube boxes index → ¬ IsNear index from to 0
small_is_not_near index is n =
    let touched : BoundsTouch cube n.i n.j n.k (place_of from) (place_of to) = rw is.size at n.touched in
    let small : Touches cube n.i n.j n.k (box 100 200) = ((is.cells n.i n.j n.k n.cell).bits 0).0 n.has in
    far_slab n.k (omega (arith, touched.z.low)) small.z.unended
