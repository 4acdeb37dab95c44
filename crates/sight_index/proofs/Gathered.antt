-- Masks as loops make them, one box or one slab after another.
use Rattle.std.proofs.Common.{ℕ, ◌≡◌, ◌+◌, ◌*◌, ◌%◌, ◌^◌, ◌<◌, ◌≤◌, ◌↔◌, List, length, get_or, arith, inl, inr, subst, sym, ◌∙◌, w64}
use Rattle.std.specs.Prelude.{slice_get, IsSomeAnd, bit_or}
use Rattle.std.proofs.lemmas.Bool.{cases_eq, cases_lt}
use Rattle.std.proofs.lemmas.List.{get_or_default}
use Rattle.std.proofs.lemmas.Nat.Bits.{bit_at_set_same, bit_at_set_other}
use Rattle.std.proofs.lemmas.Option.{slice_get-get_or}
use Rattle.room_layout.specs.declared.room.Block.{Block}
use Rattle.sight_index.specs.Masks.{HasBit, IsMaskOf, SomeBelow}
use Rattle.sight_index.specs.Slabs.{no_sides, slab, IsSlabOf}
use Rattle.sight_index.specs.declared.axis.Axis.{Axis}
use Rattle.sight_index.specs.declared.sides.Sides.{Sides}
use Rattle.sight_index.proofs.Bits.{has_either, has_left, has_right}
use Rattle.sight_index.proofs.Options.{of_some, within_list}

-- ---- boxes

-- what the code reads where there is no box
abbrev pub no_block : Block
no_block = record { lo = record { x = 0; y = 0; z = 0 }; hi = record { x = 0; y = 0; z = 0 }; reflect = 0 }

-- of the first n boxes the mask has those for which P holds
pub record IsMaskOfFirst (n : ℕ) (P : Block → Type 0) (blocks : List Block) (mask : ℕ) : Type 0 where
  pub bits : (b : ℕ) → HasBit mask b ↔ ((b < n) × IsSomeAnd (slice_get blocks b) P)

pub all_boxes : (n : ℕ) (P : Block → Type 0) (blocks : List Block) (mask : ℕ) → length blocks ≤ n → IsMaskOfFirst n P blocks mask →
    IsMaskOf P blocks mask
all_boxes n P blocks mask l m = record {
  bits = λ b. (λ h. ((m.bits b).0 h).1, λ h. let k = within_list blocks b P h in (m.bits b).1 (omega arith, h));
}

-- the next box, for which P holds
pub box_added : (n : ℕ) (P : Block → Type 0) (blocks : List Block) (mask : ℕ) (d : Block) → n < length blocks → n < 64 →
    P (get_or blocks n d) → IsMaskOfFirst n P blocks mask → IsMaskOfFirst (n + 1) P blocks (bit_or mask (1 * 2 ^ n % 2 ^ 64))
box_added n P blocks mask d l few holds m =
    let here : IsSomeAnd (slice_get blocks n) P = of_some (slice_get blocks n) (get_or blocks n d) P (slice_get-get_or blocks n d l) holds in
    record {
      bits = λ b.
          elim (cases_eq b n) [
            | inl same ↦ rw same (λ h. (omega arith, here), λ h. bit_at_set_same w64 mask n few)
            | inr other ↦
                let e = bit_at_set_other w64 mask n few b other in (
                  λ h. let old = (m.bits b).0 (omega arith) in (omega (arith, old.0), old.1),
                  λ h. let old = (m.bits b).1 (omega (arith, h.0), h.1) in omega arith,
                )
          ];
    }

not_here : (n : ℕ) (P : Block → Type 0) (blocks : List Block) (d : Block) → n < length blocks → ¬ P (get_or blocks n d) →
    ¬ IsSomeAnd (slice_get blocks n) P
not_here n P blocks d l other h = other (rw (slice_get-get_or blocks n d l) at h)

-- the next box, for which it doesn't
pub box_left : (n : ℕ) (P : Block → Type 0) (blocks : List Block) (mask : ℕ) (d : Block) → n < length blocks → ¬ P (get_or blocks n d) →
    IsMaskOfFirst n P blocks mask → IsMaskOfFirst (n + 1) P blocks mask
box_left n P blocks mask d l other m = record {
  bits = λ b. (
    λ h. let old = (m.bits b).0 h in (omega (arith, old.0), old.1),
    λ h. elim (cases_eq b n) [
      | inl same ↦ absurd (not_here n P blocks d l other (rw same at h.1))
      | inr other ↦ (m.bits b).1 (omega (arith, h.0), h.1)
    ],
  );
}

-- ---- slabs

-- of the first n slabs the mask has the boxes for which P holds at one of them
pub record IsUnion (n : ℕ) (P : ℕ → ℕ → Type 0) (mask : ℕ) : Type 0 where
  pub bits : (b : ℕ) → HasBit mask b ↔ SomeBelow n (λ k. P k b)

wider : (n : ℕ) (P : ℕ → Type 0) → SomeBelow n P → SomeBelow (n + 1) P
wider n P s = record { at = s.at; below = omega (arith, s.below); holds = s.holds }

narrower : (n : ℕ) (P : ℕ → Type 0) → SomeBelow (n + 1) P → ¬ P n → SomeBelow n P
narrower n P s last =
    elim (cases_lt s.at n) [
      | inl less ↦ record { at = s.at; below = less; holds = s.holds }
      | inr more ↦ let e : s.at ≡ n = omega (arith, s.below) in absurd (last (subst P e s.holds))
    ]

pub slab_added : (n : ℕ) (P : ℕ → ℕ → Type 0) (mask more : ℕ) → ((b : ℕ) → HasBit more b ↔ P n b) → IsUnion n P mask →
    IsUnion (n + 1) P (bit_or mask more)
slab_added n P mask more here u = record {
  bits = λ b. (
    λ h. elim (has_either mask more b h) [
      | inl old ↦ wider n (λ k. P k b) ((u.bits b).0 old)
      | inr new ↦ record { at = n; below = omega arith; holds = (here b).0 new }
    ],
    λ s. elim (cases_lt s.at n) [
      | inl less ↦ has_left mask more b ((u.bits b).1 (record { at = s.at; below = less; holds = s.holds }))
      | inr last ↦ let e : s.at ≡ n = omega (arith, s.below) in has_right mask more b ((here b).1 (subst (λ k. P k b) e s.holds))
    ],
  );
}

pub slab_left : (n : ℕ) (P : ℕ → ℕ → Type 0) (mask : ℕ) → ((b : ℕ) → ¬ P n b) → IsUnion n P mask → IsUnion (n + 1) P mask
slab_left n P mask none u = record {
  bits = λ b. (λ h. wider n (λ k. P k b) ((u.bits b).0 h), λ s. (u.bits b).1 (narrower n (λ k. P k b) s (none b)));
}

-- ---- all slabs

-- the first n slabs along an axis
pub record AreFirstSlabs (n : ℕ) (axis : Axis) (edge : ℕ) (blocks : List Block) (slabs : List Sides) : Type 0 where
  pub count : length slabs ≡ n
  pub each : (k : ℕ) → k < n → IsSlabOf axis edge k blocks (slab slabs k)

-- slab k as the code reads it
pub slab_read : (slabs : List Sides) (k : ℕ) (sides : Sides) → length slabs ≡ 16 → k < 16 → sides ≡ get_or slabs k sides → slab slabs k ≡ sides
slab_read slabs k sides long l read = get_or_default slabs k no_sides sides (omega arith) ∙ sym read
