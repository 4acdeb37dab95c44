-- What slabs are of boxes that lie in a room.
use Rattle.std.proofs.Common.{ℕ, ◌≡◌, ◌+◌, ◌<◌, ◌≤◌, ◌↔◌, List, arith, inl, inr}
use Rattle.std.proofs.lemmas.Bool.{cases_lt}
use Rattle.std.specs.Prelude.{All, Option, None, Some, slice_get, IfSome, IsSomeAnd}
use Rattle.room_layout.specs.Accepted.{IsBlockIn}
use Rattle.room_layout.specs.declared.geometry.Size.{Size}
use Rattle.room_layout.specs.declared.room.Block.{Block}
use Rattle.sight_index.specs.Cells.{begins}
use Rattle.sight_index.specs.Slabs.{along, AreSlabs, AreSlabsOf, IsBegun, IsUnended}
use Rattle.sight_index.specs.declared.axis.Axis.{Axis}
use Rattle.sight_index.specs.declared.axis.Axis.TheVariants.{X, Y, Z}
use Rattle.sight_index.specs.declared.sides.Sides.{Sides}
use Rattle.sight_index.proofs.Cuts.{begins_first, begins_later}
use Rattle.sight_index.proofs.Gathered.{AreFirstSlabs}
use Rattle.sight_index.proofs.Options.{weaken, some_of_all}

-- along an axis a box begins before it ends, and ends in the room
record LiesAlong (axis : Axis) (edge : ℕ) (b : Block) : Type 0 where
  some : along axis b.lo < along axis b.hi
  within : along axis b.hi ≤ edge

lies_along : (axis : Axis) (size : Size) (b : Block) → IsBlockIn size b → LiesAlong axis (along axis size) b
lies_along X size b h = record { some = h.x.0; within = h.x.1 }
lies_along Y size b h = record { some = h.y.0; within = h.y.1 }
lies_along Z size b h = record { some = h.z.0; within = h.z.1 }

all_along : (axis : Axis) (size : Size) (blocks : List Block) → All (IsBlockIn size) blocks → All (λ b. LiesAlong axis (along axis size) b) blocks
all_along axis size blocks all = λ k d l. lies_along axis size _ (all k d l)

begun_is : (axis : Axis) (edge : ℕ) (blocks : List Block) (slabs : List Sides) → AreSlabsOf axis edge blocks slabs → (k b : ℕ) → k < 16 →
    IsBegun slabs k b ↔ IsSomeAnd (slice_get blocks b) (λ x. along axis x.lo ≤ begins edge (k + 1))
begun_is axis edge blocks slabs a k b l = (a.each k l).has_begun.bits b

unended_is : (axis : Axis) (edge : ℕ) (blocks : List Block) (slabs : List Sides) → AreSlabsOf axis edge blocks slabs → (k b : ℕ) → k < 16 →
    IsUnended slabs k b ↔ IsSomeAnd (slice_get blocks b) (λ x. begins edge k ≤ along axis x.hi)
unended_is axis edge blocks slabs a k b l = (a.each k l).has_not_ended.bits b

not_ended : (lo hi place : ℕ) → lo < hi → ¬ (lo ≤ place) → place ≤ hi
not_ended lo hi place some n =
    elim (cases_lt place lo) [
      | inl before ↦ omega arith
      | inr begun ↦ absurd (n begun)
    ]

-- a box that hasn't begun by a place hasn't ended there
later : (o : Option Block) (R P N Q : Block → Type 0) → IfSome o R → ((x : Block) → R x → ¬ N x → Q x) → IsSomeAnd o P → ¬ IsSomeAnd o N →
    IsSomeAnd o Q
later None R P N Q r f h n = h
later (Some x) R P N Q r f h n = f x r n

are_slabs : (axis : Axis) (edge : ℕ) (blocks : List Block) (slabs : List Sides) → All (λ b. LiesAlong axis edge b) blocks →
    AreSlabsOf axis edge blocks slabs → AreSlabs slabs
are_slabs axis edge blocks slabs all a =
    let in_room = λ (b : ℕ). some_of_all blocks b (λ x. LiesAlong axis edge x) all in
    record {
      count = a.count;
      stays_begun = λ k b l h.
          (begun_is axis edge blocks slabs a (k + 1) b l).1
          (weaken (slice_get blocks b) _ _ _ (in_room b) (λ x r p. let e = begins_later edge (k + 1) in omega arith)
          ((begun_is axis edge blocks slabs a k b (omega arith)).0 h));
      was_unended = λ k b l h.
          (unended_is axis edge blocks slabs a k b (omega arith)).1
          (weaken (slice_get blocks b) _ _ _ (in_room b) (λ x r p. let e = begins_later edge k in omega arith)
          ((unended_is axis edge blocks slabs a (k + 1) b l).0 h));
      unended_at_first = λ b h.
          (unended_is axis edge blocks slabs a 0 b (omega arith)).1
          (weaken (slice_get blocks b) _ _ _ (in_room b) (λ x r p. let e = begins_first edge in omega arith)
          ((begun_is axis edge blocks slabs a 15 b (omega arith)).0 h));
      no_gap = λ k b l h n.
          (unended_is axis edge blocks slabs a (k + 1) b l).1
          (later (slice_get blocks b) _ _ _ _ (in_room b) (λ x r m. not_ended _ _ _ r.some m)
          ((begun_is axis edge blocks slabs a 15 b (omega arith)).0 h)
          (λ g. n ((begun_is axis edge blocks slabs a k b (omega arith)).1 g)));
    }

-- the slabs that the code has made, once there are sixteen
pub made_slabs : (n : ℕ) (axis : Axis) (edge : ℕ) (size : Size) (blocks : List Block) (slabs : List Sides) → n ≡ 16 → edge ≡ along axis size →
    All (IsBlockIn size) blocks → AreFirstSlabs n axis edge blocks slabs → AreSlabs slabs
made_slabs n axis edge size blocks slabs whole e all a =
    let first : AreFirstSlabs 16 axis (along axis size) blocks slabs = rw (whole, e) at a in
    are_slabs axis (along axis size) blocks slabs (all_along axis size blocks all) (record { count = first.count; each = first.each })
