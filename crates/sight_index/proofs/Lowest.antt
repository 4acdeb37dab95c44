-- The bits of a mask, taken from the lowest on, and what was asked on the way.
use Rattle.std.proofs.Common.{ℕ, ◌≡◌, ◌*◌, ◌%◌, ◌^◌, ◌<◌, ◌≤◌, arith, inl, inr, subst, sym, ◌∙◌, w64}
use Rattle.std.specs.Prelude.{Bool, List, None, Option, Some, ◌↔◌, bit_and, bit_or, false, slice_get, true}
use Rattle.std.specs.Int.{bit_at, bit_not, trailing_zeros}
use Rattle.std.proofs.lemmas.Bool.{cases_eq, cases_lt}
use Rattle.std.proofs.lemmas.Nat.{and_le_l}
use Rattle.std.proofs.lemmas.Nat.Bits.{bit_at-pow_other, bit_at-trailing_zeros, bit_at_above, bit_at_clear_same, bit_at_clear_other}
use Rattle.sight_index.specs.Masks.{HasBit}
use Rattle.sight_index.specs.Probes.{AsksNearAlone, IsAnswer, IsTrueAt}
use Rattle.sight_index.proofs.Bits.{has_both, has_either, has_left, has_or_not}

-- the mask without bit k, as the code makes it
abbrev pub cleared : ℕ → ℕ → ℕ
cleared n k = bit_and n (bit_not w64 (1 * 2 ^ k % 2 ^ 64))

-- the lowest bit of a mask
pub record IsLowest (n k : ℕ) : Type 0 where
  pub small : k < 64
  pub has : HasBit n k
  pub none_below : (a : ℕ) → a < k → ¬ HasBit n a

pub lowest : (n : ℕ) → 0 < n → n < 2 ^ 64 → IsLowest n (trailing_zeros w64 n)
lowest n some fits =
    let t = bit_at-trailing_zeros w64 n some fits in
    record { small = t.0; has = t.1; none_below = λ a l h. let z = t.2 a l in absurd (omega arith) }

small_bit : (n b : ℕ) → n < 2 ^ 64 → HasBit n b → b < 64
small_bit n b fits h =
    elim (cases_lt b 64) [
      | inl less ↦ less
      | inr more ↦ let z = bit_at_above n 64 b fits more in absurd (omega arith)
    ]

pub cleared_less : (n k : ℕ) → k < 64 → HasBit n k → cleared n k < n
cleared_less n k l h =
    let le : cleared n k ≤ n = and_le_l n (bit_not w64 (1 * 2 ^ k % 2 ^ 64)) in
    let gone : bit_at (cleared n k) k ≡ 0 = bit_at_clear_same w64 n k l in
    elim (cases_eq (cleared n k) n) [
      | inl same ↦ let g : bit_at n k ≡ 0 = subst (λ m. bit_at m k ≡ 0) same gone in absurd (omega arith)
      | inr other ↦ omega (arith, other)
    ]

pub cleared_within : (n k b : ℕ) → HasBit (cleared n k) b → HasBit n b
cleared_within n k b h = ((has_both n (bit_not w64 (1 * 2 ^ k % 2 ^ 64)) b).0 h).0

-- what goes with bit k is bit k
pub cleared_others : (n k b : ℕ) → n < 2 ^ 64 → k < 64 → HasBit n b → ¬ HasBit (cleared n k) b → b ≡ k
cleared_others n k b fits l h gone =
    elim (cases_eq b k) [
      | inl same ↦ same
      | inr other ↦ absurd (gone (bit_at_clear_other w64 n k l b (small_bit n b fits h) other ∙ h))
    ]

-- ---- what was asked

-- once bit k was asked in vain, none of those that are gone is true
pub still_gone : (mask left k : ℕ) (truths : List Bool) → left < 2 ^ 64 → k < 64 → slice_get truths k ≡ Some false →
    ((b : ℕ) → HasBit mask b → ¬ HasBit left b → ¬ IsTrueAt truths b) → (b : ℕ) → HasBit mask b → ¬ HasBit (cleared left k) b →
    ¬ IsTrueAt truths b
still_gone mask left k truths fits l asked gone b h off t =
    elim (has_or_not left b) [
      | inl still ↦
          let e : b ≡ k = cleared_others left k b fits l still off in
          let here : slice_get truths k ≡ Some true = subst (λ c. slice_get truths c ≡ Some true) e t in
          cc
      | inr before ↦ gone b h before t
    ]

one_bit : (k b : ℕ) → HasBit (2 ^ k) b → b ≡ k
one_bit k b h =
    elim (cases_eq b k) [
      | inl same ↦ same
      | inr other ↦ let z = bit_at-pow_other k b other in absurd (omega arith)
    ]

pub asks_more : (Near : ℕ → Type 0) (before asked k : ℕ) → Near k → AsksNearAlone Near before asked →
    AsksNearAlone Near before (bit_or asked (2 ^ k))
asks_more Near before asked k near a = record {
  kept = λ b h. has_left asked (2 ^ k) b (a.kept b h);
  added = λ b h.
      elim (has_either asked (2 ^ k) b h) [
        | inl old ↦ a.added b old
        | inr new ↦ inr (subst Near (sym (one_bit k b new)) near)
      ];
}

-- ---- the same by another word for near

pub answer_same : (P Q : ℕ → Type 0) (truths : List Bool) (answer : Option ℕ) → ((b : ℕ) → P b ↔ Q b) → IsAnswer P truths answer →
    IsAnswer Q truths answer
answer_same P Q truths None e a = λ b near. a b ((e b).1 near)
answer_same P Q truths (Some b) e a = record {
  near = (e b).0 a.near;
  holds = a.holds;
  first = λ c l near. a.first c l ((e c).1 near);
}

pub asks_same : (P Q : ℕ → Type 0) (before after : ℕ) → ((b : ℕ) → P b ↔ Q b) → AsksNearAlone P before after → AsksNearAlone Q before after
asks_same P Q before after e a = record {
  kept = a.kept;
  added = λ b h.
      elim (a.added b h) [
        | inl old ↦ inl old
        | inr near ↦ inr ((e b).0 near)
      ];
}
