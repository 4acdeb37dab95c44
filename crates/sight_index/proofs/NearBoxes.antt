-- The masks of two places have exactly the boxes near the segment between them.
use Rattle.std.proofs.Common.{ℕ, ◌+◌, ◌*◌, ◌<◌, ◌≤◌, ◌↔◌, List, zero, suc, add-one, min, max, arith, inl, inr}
use Rattle.std.specs.Prelude.{ℤ, bit_and, bit_or, nat_abs}
use Rattle.std.proofs.lemmas.Int.{ints}
use Rattle.std.proofs.lemmas.Bool.{cases_lt}
use Rattle.room_layout.specs.declared.geometry.Point.{Point}
use Rattle.room_layout.specs.declared.geometry.Size.{Size}
use Rattle.sight_index.specs.Cells.{begins, BoundsTouchOn, IsAlong, IsPointIn}
use Rattle.sight_index.specs.Index.{mask_at, size_of, IsNear}
use Rattle.sight_index.specs.Masks.{HasBit, SomeBelow}
use Rattle.sight_index.specs.Slabs.{near_sides, slab, slab_mask, AreSides, AreSlabs, IsBegun, IsUnended}
use Rattle.sight_index.specs.Vantages.{IsVantage}
use Rattle.sight_index.specs.declared.index.SightIndex.{SightIndex}
use Rattle.sight_index.specs.declared.sides.Sides.{Sides}
use Rattle.sight_index.specs.declared.vantage.Vantage.{Vantage}
use Rattle.sight_index.proofs.Bits.{has_both, has_either, has_or_not, has_left, has_right}
use Rattle.sight_index.proofs.Cuts.{begins_later, end_part}
use Rattle.sight_index.proofs.Meeting.{Rises, Falls, rises, falls, meeting}

-- ---- one axis

-- a slab that box b touches, and that the bounds of p and q touch
abbrev NearOn : ℕ → List Sides → ℕ → ℕ → ℕ → Type 0
NearOn edge slabs p q b = SomeBelow 16 (λ k. BoundsTouchOn edge k p q × HasBit (slab_mask slabs k) b)

begun_rises : (slabs : List Sides) (b : ℕ) → AreSlabs slabs → Rises (λ k. IsBegun slabs k b)
begun_rises slabs b a = rises (λ k. IsBegun slabs k b) (λ k l h. a.stays_begun k b l h)

unended_falls : (slabs : List Sides) (b : ℕ) → AreSlabs slabs → Falls (λ k. IsUnended slabs k b)
unended_falls slabs b a = falls (λ k. IsUnended slabs k b) (λ k l h. a.was_unended k b l h)

reaches_rises : (edge p : ℕ) → Rises (λ k. p ≤ 2 * begins edge (k + 1))
reaches_rises edge p = rises (λ k. p ≤ 2 * begins edge (k + 1)) (λ k l h. let e = begins_later edge (k + 1) in omega arith)

starts_falls : (edge p : ℕ) → Falls (λ k. 2 * begins edge k ≤ p)
starts_falls edge p = falls (λ k. 2 * begins edge k ≤ p) (λ k l h. let e = begins_later edge k in omega arith)

-- a box that has begun is in some slab: going down from one at which it has begun, to the first
in_some : (slabs : List Sides) (b : ℕ) → AreSlabs slabs → IsBegun slabs 15 b → (k : ℕ) → k < 16 → IsBegun slabs k b →
    SomeBelow 16 (λ k. IsBegun slabs k b × IsUnended slabs k b)
in_some slabs b a whole zero l h = record { at = 0; below = l; holds = (h, a.unended_at_first b whole) }
in_some slabs b a whole (suc k) l h =
    elim (has_or_not (slab slabs k).begun b) [
      | inl before ↦ in_some slabs b a whole k (omega arith) before
      | inr first ↦ record { at = suc k; below = l; holds = (h, rw (← add-one k) (a.no_gap k b (omega arith) whole first)) }
    ]

-- the boxes of two sides together
some_begun : (edge : ℕ) (slabs : List Sides) (p q b : ℕ) (s t : Sides) → AreSides edge slabs p s → AreSides edge slabs q t →
    HasBit (bit_or s.begun t.begun) b → SomeBelow 16 (λ k. IsBegun slabs k b × (2 * begins edge k ≤ max p q))
some_begun edge slabs p q b s t u v h =
    elim (has_either s.begun t.begun b h) [
      | inl of_s ↦ let f = (u.have_begun.bits b).0 of_s in record { at = f.at; below = f.below; holds = (f.holds.1, omega (arith, f.holds.0)) }
      | inr of_t ↦ let f = (v.have_begun.bits b).0 of_t in record { at = f.at; below = f.below; holds = (f.holds.1, omega (arith, f.holds.0)) }
    ]

some_unended : (edge : ℕ) (slabs : List Sides) (p q b : ℕ) (s t : Sides) → AreSides edge slabs p s → AreSides edge slabs q t →
    HasBit (bit_or s.unended t.unended) b → SomeBelow 16 (λ k. (min p q ≤ 2 * begins edge (k + 1)) × IsUnended slabs k b)
some_unended edge slabs p q b s t u v h =
    elim (has_either s.unended t.unended b h) [
      | inl of_s ↦ let f = (u.have_not_ended.bits b).0 of_s in record { at = f.at; below = f.below; holds = (omega (arith, f.holds.0), f.holds.1) }
      | inr of_t ↦ let f = (v.have_not_ended.bits b).0 of_t in record { at = f.at; below = f.below; holds = (omega (arith, f.holds.0), f.holds.1) }
    ]

end_reaches : (edge p q : ℕ) → p ≤ 2 * edge → SomeBelow 16 (λ k. (min p q ≤ 2 * begins edge (k + 1)) × (2 * begins edge k ≤ max p q))
end_reaches edge p q h = let f = end_part edge p q h in record { at = f.at; below = f.below; holds = (f.holds.low, f.holds.high) }

near_from : (edge : ℕ) (slabs : List Sides) (p q b : ℕ) →
    SomeBelow 16 (λ k. (IsBegun slabs k b × IsUnended slabs k b) × ((min p q ≤ 2 * begins edge (k + 1)) × (2 * begins edge k ≤ max p q))) →
    NearOn edge slabs p q b
near_from edge slabs p q b s = record {
  at = s.at;
  below = s.below;
  holds = (
    record { low = s.holds.1.0; high = s.holds.1.1 },
    (has_both (slab slabs s.at).begun (slab slabs s.at).unended b).1 s.holds.0,
  );
}

found_on : (edge : ℕ) (slabs : List Sides) (p q b : ℕ) (s t : Sides) → AreSlabs slabs → AreSides edge slabs p s → AreSides edge slabs q t →
    p ≤ 2 * edge → HasBit (near_sides s t) b → NearOn edge slabs p q b
found_on edge slabs p q b s t a u v l h =
    let both = (has_both (bit_or s.begun t.begun) (bit_or s.unended t.unended) b).0 h in
    let begun = some_begun edge slabs p q b s t u v both.0 in
    let unended = some_unended edge slabs p q b s t u v both.1 in
    let whole : IsBegun slabs 15 b = (begun_rises slabs b a).up begun.at 15 (omega (arith, begun.below)) (omega arith) begun.holds.0 in
    near_from edge slabs p q b
    (meeting (λ k. IsBegun slabs k b) (λ k. min p q ≤ 2 * begins edge (k + 1)) (λ k. IsUnended slabs k b) (λ k. 2 * begins edge k ≤ max p q)
    (begun_rises slabs b a) (reaches_rises edge (min p q)) (unended_falls slabs b a) (starts_falls edge (max p q))
    (in_some slabs b a whole 15 (omega arith) whole) begun unended (end_reaches edge p q l))

-- a slab that doesn't begin behind the farther of two places doesn't begin behind one of them
has_begun : (edge : ℕ) (slabs : List Sides) (p q b k : ℕ) (s t : Sides) → AreSides edge slabs p s → AreSides edge slabs q t →
    k < 16 → 2 * begins edge k ≤ max p q → IsBegun slabs k b → HasBit (bit_or s.begun t.begun) b
has_begun edge slabs p q b k s t u v l start h =
    elim (cases_lt p q) [
      | inl less ↦ has_right s.begun t.begun b ((v.have_begun.bits b).1 (record { at = k; below = l; holds = (omega arith, h) }))
      | inr more ↦ has_left s.begun t.begun b ((u.have_begun.bits b).1 (record { at = k; below = l; holds = (omega arith, h) }))
    ]

has_unended : (edge : ℕ) (slabs : List Sides) (p q b k : ℕ) (s t : Sides) → AreSides edge slabs p s → AreSides edge slabs q t →
    k < 16 → min p q ≤ 2 * begins edge (k + 1) → IsUnended slabs k b → HasBit (bit_or s.unended t.unended) b
has_unended edge slabs p q b k s t u v l start h =
    elim (cases_lt p q) [
      | inl less ↦ has_left s.unended t.unended b ((u.have_not_ended.bits b).1 (record { at = k; below = l; holds = (omega arith, h) }))
      | inr more ↦ has_right s.unended t.unended b ((v.have_not_ended.bits b).1 (record { at = k; below = l; holds = (omega arith, h) }))
    ]

kept_on : (edge : ℕ) (slabs : List Sides) (p q b : ℕ) (s t : Sides) → AreSides edge slabs p s → AreSides edge slabs q t →
    NearOn edge slabs p q b → HasBit (near_sides s t) b
kept_on edge slabs p q b s t u v n =
    let has = (has_both _ _ b).0 n.holds.1 in
    (has_both (bit_or s.begun t.begun) (bit_or s.unended t.unended) b).1 (
      has_begun edge slabs p q b n.at s t u v n.below n.holds.0.high has.0,
      has_unended edge slabs p q b n.at s t u v n.below n.holds.0.low has.1,
    )

-- ---- all three

-- a place in the room, along an edge
along_edge : (edge : ℕ) (z : ℤ) → IsAlong edge z → nat_abs z ≤ 2 * edge
along_edge edge z h = omega (arith, ints)

pub within_x : (room : Size) (p : Point) → IsPointIn room p → nat_abs p.x ≤ 2 * room.x
within_x room p h = along_edge room.x p.x h.x

pub within_y : (room : Size) (p : Point) → IsPointIn room p → nat_abs p.y ≤ 2 * room.y
within_y room p h = along_edge room.y p.y h.y

pub within_z : (room : Size) (p : Point) → IsPointIn room p → nat_abs p.z ≤ 2 * room.z
within_z room p h = along_edge room.z p.z h.z

-- the boxes near a segment, from the masks of its ends
abbrev pub near_mask : Vantage → Vantage → ℕ
near_mask v w = bit_and (bit_and (near_sides v.x w.x) (near_sides v.y w.y)) (near_sides v.z w.z)

found : (index : SightIndex) (v w : Vantage) (b : ℕ) → IsVantage index v → IsVantage index w → HasBit (near_mask v w) b →
    IsNear index v.at w.at b
unfolding mask_at
found index v w b f g h =
    let all = (has_both (bit_and (near_sides v.x w.x) (near_sides v.y w.y)) (near_sides v.z w.z) b).0 h in
    let two = (has_both (near_sides v.x w.x) (near_sides v.y w.y) b).0 all.0 in
    let room : Size = size_of index in
    let x = found_on room.x index.x.kept.items _ _ b v.x w.x index.x.fit f.x g.x (within_x room v.at f.within) two.0 in
    let y = found_on room.y index.y.kept.items _ _ b v.y w.y index.y.fit f.y g.y (within_y room v.at f.within) two.1 in
    let z = found_on room.z index.z.kept.items _ _ b v.z w.z index.z.fit f.z g.z (within_z room v.at f.within) all.1 in
    record {
      i = x.at;
      j = y.at;
      k = z.at;
      cell = record { x = x.below; y = y.below; z = z.below };
      touched = record { x = x.holds.0; y = y.holds.0; z = z.holds.0 };
      has = (has_both _ _ b).1 ((has_both _ _ b).1 (x.holds.1, y.holds.1), z.holds.1);
    }

kept : (index : SightIndex) (v w : Vantage) (b : ℕ) → IsVantage index v → IsVantage index w → IsNear index v.at w.at b →
    HasBit (near_mask v w) b
unfolding mask_at
kept index v w b f g n =
    let all = (has_both _ _ b).0 n.has in
    let two = (has_both _ _ b).0 all.0 in
    let x = kept_on index.x.edge index.x.kept.items _ _ b v.x w.x f.x g.x (record { at = n.i; below = n.cell.x; holds = (n.touched.x, two.0) }) in
    let y = kept_on index.y.edge index.y.kept.items _ _ b v.y w.y f.y g.y (record { at = n.j; below = n.cell.y; holds = (n.touched.y, two.1) }) in
    let z = kept_on index.z.edge index.z.kept.items _ _ b v.z w.z f.z g.z (record { at = n.k; below = n.cell.z; holds = (n.touched.z, all.1) }) in
    (has_both _ _ b).1 ((has_both _ _ b).1 (x, y), z)

pub near_is : (index : SightIndex) (v w : Vantage) (b : ℕ) → IsVantage index v → IsVantage index w →
    HasBit (near_mask v w) b ↔ IsNear index v.at w.at b
near_is index v w b f g = (found index v w b f g, kept index v w b f g)

-- a near box is one of those that the index knows
pub near_known : (index : SightIndex) (v w : Vantage) (b : ℕ) → IsNear index v.at w.at b → b < index.count
unfolding mask_at
near_known index v w b n =
    let all = (has_both _ _ b).0 n.has in
    let two = (has_both _ _ b).0 all.0 in
    index.only.begun n.i b n.cell.x ((has_both _ _ b).0 two.0).0
