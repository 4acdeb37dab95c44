-- What is built of a room's boxes is their index.
use Rattle.std.proofs.Common.{ℕ, ◌≡◌, ◌+◌, ◌<◌, ◌≤◌, ◌↔◌, List, length, refl}
use Rattle.std.specs.Prelude.{Option, None, Some, slice_get, IsSomeAnd, bit_and}
use Rattle.room_layout.specs.declared.geometry.Size.{Size}
use Rattle.room_layout.specs.declared.room.Block.{Block}
use Rattle.sight_index.specs.Cells.{begins, IsCell, Touches, TouchesOn}
use Rattle.sight_index.specs.Index.{mask_at, IsIndexOf}
use Rattle.sight_index.specs.Masks.{IsMaskOf}
use Rattle.sight_index.specs.Slabs.{along, slab, slab_mask, AreOfBoxes, AreSlabsOf}
use Rattle.sight_index.specs.declared.axis.Axis.{Axis}
use Rattle.sight_index.specs.declared.axis.Axis.TheVariants.{X, Y, Z}
use Rattle.sight_index.specs.declared.index.SightIndex.{SightIndex}
use Rattle.sight_index.specs.declared.sides.Sides.{Sides}
use Rattle.sight_index.proofs.Bits.{has_both}
use Rattle.sight_index.proofs.Options.{within_list}

-- two masks together have the boxes of which both facts hold
two_facts : (o : Option Block) (P Q R : Block → Type 0) → ((x : Block) → R x ↔ (P x × Q x)) → IsSomeAnd o R ↔ (IsSomeAnd o P × IsSomeAnd o Q)
two_facts None P Q R f = (λ h. absurd h, λ h. h.0)
two_facts (Some x) P Q R f = f x

together : (blocks : List Block) (m n : ℕ) (P Q R : Block → Type 0) → IsMaskOf P blocks m → IsMaskOf Q blocks n →
    ((x : Block) → R x ↔ (P x × Q x)) → IsMaskOf R blocks (bit_and m n)
together blocks m n P Q R p q f = record {
  bits = λ b.
      let facts = two_facts (slice_get blocks b) P Q R f in (
        λ h. let both = (has_both m n b).0 h in facts.1 ((p.bits b).0 both.0, (q.bits b).0 both.1),
        λ h. let both = facts.0 h in (has_both m n b).1 ((p.bits b).1 both.0, (q.bits b).1 both.1),
      );
}

-- the boxes that a slab touches
touched : (axis : Axis) (edge : ℕ) (blocks : List Block) (slabs : List Sides) (k : ℕ) → k < 16 → AreSlabsOf axis edge blocks slabs →
    IsMaskOf (λ x. TouchesOn edge k (along axis x.lo) (along axis x.hi)) blocks (slab_mask slabs k)
touched axis edge blocks slabs k l a =
    together blocks (slab slabs k).begun (slab slabs k).unended _ _ _ (a.each k l).has_begun (a.each k l).has_not_ended
    (λ x. (λ t. (t.begun, t.unended), λ t. record { begun = t.0; unended = t.1 }))

pub cell_is : (room : Size) (blocks : List Block) (xs ys zs : List Sides) (i j k : ℕ) → IsCell i j k → AreSlabsOf X room.x blocks xs →
    AreSlabsOf Y room.y blocks ys → AreSlabsOf Z room.z blocks zs →
    IsMaskOf (Touches room i j k) blocks (bit_and (bit_and (slab_mask xs i) (slab_mask ys j)) (slab_mask zs k))
cell_is room blocks xs ys zs i j k cell x y z =
    let xy : IsMaskOf (λ b. TouchesOn room.x i b.lo.x b.hi.x × TouchesOn room.y j b.lo.y b.hi.y) blocks (bit_and (slab_mask xs i) (slab_mask ys j)) =
    together blocks (slab_mask xs i) (slab_mask ys j) _ _ _ (touched X room.x blocks xs i cell.x x) (touched Y room.y blocks ys j cell.y y)
    (λ b. (λ t. t, λ t. t)) in
    together blocks (bit_and (slab_mask xs i) (slab_mask ys j)) (slab_mask zs k) _ _ _ xy (touched Z room.z blocks zs k cell.z z)
    (λ b. (λ t. ((t.x, t.y), t.z), λ t. record { x = t.0.0; y = t.0.1; z = t.1 }))

pub of_boxes : (axis : Axis) (edge : ℕ) (blocks : List Block) (slabs : List Sides) → AreSlabsOf axis edge blocks slabs →
    AreOfBoxes (length blocks) slabs
of_boxes axis edge blocks slabs a = record {
  begun = λ k b l h. within_list blocks b (λ x. along axis x.lo ≤ begins edge (k + 1)) (((a.each k l).has_begun.bits b).0 h);
}

pub index_of : (room : Size) (blocks : List Block) (index : SightIndex) → index.x.edge ≡ room.x → index.y.edge ≡ room.y →
    index.z.edge ≡ room.z → index.count ≡ length blocks → AreSlabsOf X index.x.edge blocks index.x.kept.items →
    AreSlabsOf Y index.y.edge blocks index.y.kept.items → AreSlabsOf Z index.z.edge blocks index.z.kept.items → IsIndexOf room blocks index
unfolding mask_at
index_of room blocks index ex ey ez few x y z = record {
  size = rw (ex, ey, ez) refl;
  count = few;
  cells = λ i j k cell.
      cell_is room blocks index.x.kept.items index.y.kept.items index.z.kept.items i j k cell (rw ex at x) (rw ey at y) (rw ez at z);
}
