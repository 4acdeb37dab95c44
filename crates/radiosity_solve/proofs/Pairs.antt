-- Solutions of either sign in whole numbers that aren't negative: the value at patch i is (up i - down i) / m, and the direct light
-- (e i - f i) / q.
use Rattle.std.proofs.Common.{ℕ, ◌+◌, ◌*◌, ◌<◌, ◌≡◌, arith}
use Rattle.interval_system.specs.Whole.{total}
use Rattle.interval_system.proofs.Totals.{total-zero, total-same}

pub record Solves (n q : ℕ) (k : ℕ → ℕ → ℕ) (e f : ℕ → ℕ) (m : ℕ) (up down : ℕ → ℕ) : Type 0 where
  pub positive : 0 < m
  pub row : (i : ℕ) → i < n →
      (q * up i + m * f i) + total n (λ j. k i j * down j) ≡ (m * e i + total n (λ j. k i j * up j)) + q * down i

-- a solution that isn't negative, of light that isn't
pub record SolvesPlainly (n q : ℕ) (k : ℕ → ℕ → ℕ) (e : ℕ → ℕ) (m : ℕ) (h : ℕ → ℕ) : Type 0 where
  pub positive : 0 < m
  pub row : (i : ℕ) → i < n → q * h i ≡ m * e i + total n (λ j. k i j * h j)

unfoldable pub none : ℕ → ℕ
none i = 0

total-none : (n : ℕ) (k : ℕ → ℕ) → total n (λ j. k j * none j) ≡ 0
unfolding none
total-none n k = omega (arith, total-same n (λ j. k j * 0) (λ j. 0) (λ j l. omega arith), total-zero n)

pub plain-solves : (n q : ℕ) (k : ℕ → ℕ → ℕ) (e : ℕ → ℕ) (m : ℕ) (h : ℕ → ℕ) → SolvesPlainly n q k e m h → Solves n q k e none m h none
unfolding none
plain-solves n q k e m h p = record {
  positive = p.positive;
  row = λ i l. omega (arith, p.row i l, total-none n (k i));
}
