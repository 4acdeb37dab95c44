-- Single bits of masks.
use Rattle.std.proofs.Common.{ℕ, ◌≡◌, ◌<◌, ◌⊎◌, ◌↔◌, min, max, arith, inl, inr}
use Rattle.std.specs.Prelude.{bit_and, bit_or}
use Rattle.std.specs.Int.{bit_at}
use Rattle.std.proofs.lemmas.Nat.Bits.{bit_at_and, bit_at_or, bit_at-lt, bit_at-zero}
use Rattle.std.proofs.lemmas.Bool.{cases_lt}
use Rattle.sight_index.specs.Masks.{HasBit}

pub none_has : (b : ℕ) → ¬ HasBit 0 b
none_has b h = let z = bit_at-zero b in absurd (omega arith)

pub has_or_not : (m b : ℕ) → HasBit m b ⊎ ¬ HasBit m b
has_or_not m b =
    let small = bit_at-lt m b in
    elim (cases_lt (bit_at m b) 1) [
      | inl less ↦ inr (λ h. absurd (omega arith))
      | inr more ↦ inl (omega arith)
    ]

-- ---- two masks together

both_are : (x y m : ℕ) → m ≡ min x y → x < 2 → y < 2 → (m ≡ 1) ↔ ((x ≡ 1) × (y ≡ 1))
both_are x y m e p q = (λ h. (omega arith, omega arith), λ h. omega (arith, h))

pub has_both : (m n b : ℕ) → HasBit (bit_and m n) b ↔ (HasBit m b × HasBit n b)
has_both m n b = both_are (bit_at m b) (bit_at n b) (bit_at (bit_and m n) b) (bit_at_and m n b) (bit_at-lt m b) (bit_at-lt n b)

is_either : (x y m : ℕ) → m ≡ max x y → x < 2 → y < 2 → m ≡ 1 → (x ≡ 1) ⊎ (y ≡ 1)
is_either x y m e p q h =
    elim (cases_lt x y) [
      | inl less ↦ inr (omega arith)
      | inr more ↦ inl (omega arith)
    ]

pub has_either : (m n b : ℕ) → HasBit (bit_or m n) b → HasBit m b ⊎ HasBit n b
has_either m n b = is_either (bit_at m b) (bit_at n b) (bit_at (bit_or m n) b) (bit_at_or m n b) (bit_at-lt m b) (bit_at-lt n b)

pub has_left : (m n b : ℕ) → HasBit m b → HasBit (bit_or m n) b
has_left m n b h = omega (arith, bit_at_or m n b, bit_at-lt n b)

pub has_right : (m n b : ℕ) → HasBit n b → HasBit (bit_or m n) b
has_right m n b h = omega (arith, bit_at_or m n b, bit_at-lt m b)
