-- Where a turn begins.
use Rattle.std.proofs.Common.{ℕ, ◌+◌, ◌*◌, ◌<◌, ◌≤◌, ◌≡◌, List, arith, inl, inr, nat_le, true, ◌⊎◌}
use Rattle.std.proofs.lemmas.Bool.{cases_lt}
use Rattle.std.proofs.lemmas.Bool.Decides.{nat_tests}
use Rattle.fx_base.specs.Search.{least}
use Rattle.fx_base.proofs.SearchLaws.{least_passes, least_least, least_within}
use Rattle.fx_base.proofs.Truth.{le_true}
use Rattle.symmetry_expand.specs.Steps.{last_place, zigzag, start_of}

le_is : (m n : ℕ) → nat_le m n ≡ true → m ≤ n
le_is m n h = grind (arith, nat_tests)

pub start_early : (ps : List ℕ) (base : ℕ) → start_of ps base ≤ 2 * last_place ps
unfolding start_of
start_early ps base = let g = least_within (λ i. nat_le base (zigzag ps i)) (2 * last_place ps) 0 in omega (arith, g)

-- the start isn't before the base, and what comes before it is
pub start_reached : (ps : List ℕ) (base : ℕ) → base ≤ zigzag ps (2 * last_place ps) → base ≤ zigzag ps (start_of ps base)
unfolding start_of
start_reached ps base h = elim (least_passes (λ i. nat_le base (zigzag ps i)) (2 * last_place ps) 0) [
  | inl p ↦ le_is base (zigzag ps (least (λ i. nat_le base (zigzag ps i)) (2 * last_place ps) 0)) p
  | inr e ↦ let z : 0 + 2 * last_place ps ≡ 2 * last_place ps = omega arith in rw (e, z) h
]

pub start_least : (ps : List ℕ) (base i : ℕ) → i < start_of ps base → zigzag ps i < base
unfolding start_of
start_least ps base i p = elim (cases_lt (zigzag ps i) base) [
  | inl l ↦ l
  | inr g ↦ let k = least_least (λ i. nat_le base (zigzag ps i)) (2 * last_place ps) 0 i (omega arith) (le_true base (zigzag ps i) g) in absurd (omega arith)
]

-- it is found by going step by step
pub start_is : (ps : List ℕ) (base i : ℕ) → i ≤ 2 * last_place ps → base ≤ zigzag ps (2 * last_place ps) → ((k : ℕ) → k < i → zigzag ps k < base)
    → (2 * last_place ps ≤ i) ⊎ (base ≤ zigzag ps i) → i ≡ start_of ps base
start_is ps base i most reached before here = elim (cases_lt (start_of ps base) i) [
  | inl l ↦ let a = start_reached ps base reached in let b = before (start_of ps base) l in absurd (omega arith)
  | inr g ↦ elim (cases_lt i (start_of ps base)) [
    | inl l ↦ let a = start_least ps base i l in elim here [
      | inl e ↦ let b = start_early ps base in absurd (omega arith)
      | inr f ↦ absurd (omega arith)
    ]
    | inr f ↦ omega arith
  ]
]
