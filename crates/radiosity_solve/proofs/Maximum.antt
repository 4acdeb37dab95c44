-- The maximum principle, on which the solver rests: where the row sums of k are below q, a vector that a turn raises no further
-- than another is at most the other.
use Rattle.std.proofs.Common.{ℕ, zero, suc, ◌+◌, ◌*◌, ◌<◌, ◌≤◌, inl, inr, arith}
use Rattle.std.proofs.Math.Nat.{mul-le-mul_left}
use Rattle.std.proofs.lemmas.Bool.{cases_lt}
use Rattle.interval_system.specs.Whole.{total, IsBelowOne}
use Rattle.interval_system.proofs.Totals.{at-le-total}

row-bound : (n : ℕ) (k a b : ℕ → ℕ) (d : ℕ) → ((j : ℕ) → j < n → a j ≤ b j + d)
    → total n (λ j. k j * a j) ≤ total n (λ j. k j * b j) + d * total n k
row-bound zero k a b d g = omega arith
row-bound (suc n) k a b d g =
    omega (arith, row-bound n k a b d (λ j l. g j (omega arith)), mul-le-mul_left (k n) (g n (omega arith)))

last : (q r d x y : ℕ) → r < q → q * x ≤ q * y + suc d * r → x ≤ y + d
last q r d x y l h = elim (cases_lt (y + d) x) [
  | inl w ↦
      let more : y + suc d ≤ x = omega arith in
      let less : suc r ≤ q = omega arith in
      absurd (omega (arith, mul-le-mul_left q more, mul-le-mul_left (suc d) less))
  | inr w ↦ w
]

descend : (n q : ℕ) (k : ℕ → ℕ → ℕ) (a b : ℕ → ℕ) → IsBelowOne n q k
    → ((i : ℕ) → i < n → q * a i + total n (λ j. k i j * b j) ≤ q * b i + total n (λ j. k i j * a j))
    → (d : ℕ) → ((i : ℕ) → i < n → a i ≤ b i + d) → (i : ℕ) → i < n → a i ≤ b i
descend n q k a b below turn zero g i l = omega (arith, g i l)
descend n q k a b below turn (suc d) g i l =
    descend n q k a b below turn d
    (λ p w. last q (total n (k p)) d (a p) (b p) (below.row p w) (omega (arith, turn p w, row-bound n (k p) a b (suc d) g))) i l

pub at_most : (n q : ℕ) (k : ℕ → ℕ → ℕ) (a b : ℕ → ℕ) → IsBelowOne n q k
    → ((i : ℕ) → i < n → q * a i + total n (λ j. k i j * b j) ≤ q * b i + total n (λ j. k i j * a j))
    → (i : ℕ) → i < n → a i ≤ b i
at_most n q k a b below turn = descend n q k a b below turn (total n a) (λ i l. omega (arith, at-le-total n a i l))
