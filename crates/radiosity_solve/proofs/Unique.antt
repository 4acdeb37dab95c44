-- One solution, and the comparison of two systems of whole numbers.
use Rattle.std.proofs.Common.{ℕ, ◌+◌, ◌*◌, ◌<◌, ◌≤◌, ◌≡◌, ap, arith}
use Rattle.std.proofs.Math.Nat.{mul-le-mul_left, le_of_mul-le-mul_left}
use Rattle.interval_system.specs.Whole.{total, IsBelowOne}
use Rattle.radiosity_solve.specs.Laws.{IsBelowEquations}
use Rattle.interval_system.proofs.Totals.{total-le, total-mix, total-times, total-scale}
use Rattle.radiosity_solve.proofs.Maximum.{at_most}
use Rattle.radiosity_solve.proofs.Pairs.{Solves, SolvesPlainly}

-- a solution of the equations is at most any other
not_above : (n q : ℕ) (k : ℕ → ℕ → ℕ) (e f : ℕ → ℕ) (m : ℕ) (a b : ℕ → ℕ) (o : ℕ) (c d : ℕ → ℕ) → IsBelowOne n q k
    → Solves n q k e f m a b → Solves n q k e f o c d → (i : ℕ) → i < n → o * a i + m * d i ≤ o * b i + m * c i
not_above n q k e f m a b o c d below s t =
    at_most n q k (λ i. o * a i + m * d i) (λ i. o * b i + m * c i) below
    (λ i l. omega (
      arith,
      total-mix n o m (k i) b c,
      total-mix n o m (k i) a d,
      ap (λ (z : ℕ). o * z) (s.row i l),
      ap (λ (z : ℕ). m * z) (t.row i l),
    ))

pub one_solution : (n q : ℕ) (k : ℕ → ℕ → ℕ) (e f : ℕ → ℕ) (m : ℕ) (a b : ℕ → ℕ) (o : ℕ) (c d : ℕ → ℕ) → IsBelowOne n q k
    → Solves n q k e f m a b → Solves n q k e f o c d → (i : ℕ) → i < n → o * a i + m * d i ≡ o * b i + m * c i
one_solution n q k e f m a b o c d below s t i l =
    omega (arith, not_above n q k e f m a b o c d below s t i l, not_above n q k e f o c d m a b below t s i l)

-- light that isn't negative gives a solution that isn't
pub not_negative : (n q : ℕ) (k : ℕ → ℕ → ℕ) (e : ℕ → ℕ) (f : ℕ → ℕ) (m : ℕ) (a b : ℕ → ℕ) → IsBelowOne n q k
    → ((i : ℕ) → i < n → f i ≤ e i) → Solves n q k e f m a b → (i : ℕ) → i < n → b i ≤ a i
not_negative n q k e f m a b below light s =
    at_most n q k b a below (λ i l. omega (arith, s.row i l, mul-le-mul_left m (light i l)))

-- ---- two systems, the first with coefficients and light at most those of the second

larger-row : (n q q' : ℕ) (k k' c : ℕ → ℕ) → ((j : ℕ) → j < n → k j * q' ≤ k' j * q)
    → q' * total n (λ j. k j * c j) ≤ q * total n (λ j. k' j * c j)
larger-row n q q' k k' c less =
    omega (
      arith,
      total-scale n q' (λ j. k j * c j),
      total-scale n q (λ j. k' j * c j),
      total-le n (λ j. q' * (k j * c j)) (λ j. q * (k' j * c j)) (λ j l. omega (arith, mul-le-mul_left (c j) (less j l))),
    )

-- what the larger system's solution c / o sends by the coefficients of the smaller one is at most itself
sent-less : (q q' o e e' s s' c : ℕ) → 0 < q' → e * q' ≤ e' * q → q' * s ≤ q * s' → q' * c ≡ o * e' + s' → o * e + s ≤ q * c
sent-less q q' o e e' s s' c pos light sent row =
    le_of_mul-le-mul_left {k = q'} (omega (arith, mul-le-mul_left o light, ap (λ (z : ℕ). q * z) row)) pos

pub compared : (n q : ℕ) (k : ℕ → ℕ → ℕ) (e : ℕ → ℕ) (m : ℕ) (a b : ℕ → ℕ) (q' : ℕ) (k' : ℕ → ℕ → ℕ) (e' : ℕ → ℕ) (o : ℕ) (c : ℕ → ℕ)
    → IsBelowOne n q k → 0 < q' → IsBelowEquations n q k e q' k' e'
    → Solves n q k e (λ i. 0) m a b → SolvesPlainly n q' k' e' o c → (i : ℕ) → i < n → o * a i ≤ o * b i + m * c i
compared n q k e m a b q' k' e' o c below pos less s t =
    at_most n q k (λ i. o * a i) (λ i. o * b i + m * c i) below
    (λ i l.
    let sent : o * e i + total n (λ j. k i j * c j) ≤ q * c i =
    sent-less q q' o (e i) (e' i) (total n (λ j. k i j * c j)) (total n (λ j. k' i j * c j)) (c i) pos (less.light i l)
    (larger-row n q q' (k i) (k' i) c (λ j w. less.coefficient i j l w)) (t.row i l) in
    omega (
      arith,
      total-mix n o m (k i) b c,
      total-times n o (k i) a,
      ap (λ (z : ℕ). o * z) (s.row i l),
      mul-le-mul_left m sent,
    ))
