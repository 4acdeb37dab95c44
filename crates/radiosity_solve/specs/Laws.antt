-- What is true of the radiosity equations: one solution, and larger numbers give a larger one. In whole numbers over one
-- denominator, for light and solutions of either sign, and in fractions.
use Rattle.std.specs.Prelude.{ℕ, ◌*◌, ◌<◌, ◌≤◌, ◌≡◌, ℤ, pos, neg_ℤ, ◌-ℤ◌, ◌*ℤ◌, ◌≤ℤ◌}
use Rattle.fx_base.specs.Fraction.{Fraction, ◌≤ᶠ◌, ◌≈ᶠ◌}
use Rattle.fx_base.specs.Units.{natural}
use Rattle.interval_system.specs.Whole.{IsBelowOne, IsSolution, denominator, numerator}
use Rattle.interval_system.specs.Equations.{SolvesEquations, RowsBelowOne, solution}
use Rattle.interval_system.specs.Radiosity.{Enclosures, AreRowsBelowOne, HasOneLight}

-- ---- in whole numbers

-- the elimination for light of either sign: that of what isn't negative, less that of what is
abbrev pub signed_numerator : ℕ → ℕ → (ℕ → ℕ → ℕ) → (ℕ → ℤ) → ℕ → ℤ
signed_numerator n q k e i = pos (numerator n q k (λ j. natural (e j)) i) -ℤ pos (numerator n q k (λ j. natural (neg_ℤ (e j))) i)

-- the elimination solves the equations, each solution of theirs is that one, and it isn't negative where the light isn't
pub record HasOneSolution (n q : ℕ) (k : ℕ → ℕ → ℕ) (e : ℕ → ℤ) : Type 0 where
  pub solves : IsSolution n q k e (denominator n q k) (signed_numerator n q k e)
  pub alone : (m : ℕ) (h : ℕ → ℤ) → IsSolution n q k e m h → (i : ℕ) → i < n
      → pos (denominator n q k) *ℤ h i ≡ pos m *ℤ signed_numerator n q k e i
  pub not_negative : ((i : ℕ) → i < n → pos 0 ≤ℤ e i) → (i : ℕ) → i < n → pos 0 ≤ℤ signed_numerator n q k e i

abbrev pub OneSolution : Type 0
OneSolution = (n q : ℕ) (k : ℕ → ℕ → ℕ) (e : ℕ → ℤ) → IsBelowOne n q k → HasOneSolution n q k e

-- each number of the equations e, k over q is at most that of e', k' over q'
pub record IsBelowEquations (n q : ℕ) (k : ℕ → ℕ → ℕ) (e : ℕ → ℕ) (q' : ℕ) (k' : ℕ → ℕ → ℕ) (e' : ℕ → ℕ) : Type 0 where
  pub coefficient : (i j : ℕ) → i < n → j < n → k i j * q' ≤ k' i j * q
  pub light : (i : ℕ) → i < n → e i * q' ≤ e' i * q

abbrev pub Comparison : Type 0
Comparison = (n q : ℕ) (k : ℕ → ℕ → ℕ) (e : ℕ → ℕ) (m : ℕ) (h : ℕ → ℤ) (q' : ℕ) (k' : ℕ → ℕ → ℕ) (e' : ℕ → ℕ) (m' : ℕ) (h' : ℕ → ℤ)
    → IsBelowOne n q k → IsBelowOne n q' k' → IsBelowEquations n q k e q' k' e'
    → IsSolution n q k (λ i. pos (e i)) m h → IsSolution n q' k' (λ i. pos (e' i)) m' h'
    → (i : ℕ) → i < n → (pos m' *ℤ h i) ≤ℤ (pos m *ℤ h' i)

-- ---- in fractions

pub record HasOneFractionSolution (n : ℕ) (k : ℕ → ℕ → Fraction) (d : ℕ → Fraction) : Type 0 where
  pub solves : SolvesEquations n k d (solution n k d)
  pub alone : (h : ℕ → Fraction) → SolvesEquations n k d h → (i : ℕ) → i < n → h i ≈ᶠ solution n k d i

abbrev pub OneFractionSolution : Type 0
OneFractionSolution = (n : ℕ) (k : ℕ → ℕ → Fraction) (d : ℕ → Fraction) → RowsBelowOne n k → HasOneFractionSolution n k d

-- where every row sum is below one, the equations of the lower ends and those of the upper ends have one solution each
abbrev pub OneLight : Type 0
OneLight = (s : Enclosures) → AreRowsBelowOne s → HasOneLight s

-- the row sums of the smaller coefficients are then below one too
abbrev pub FractionComparison : Type 0
FractionComparison = (n : ℕ) (k k' : ℕ → ℕ → Fraction) (d d' : ℕ → Fraction) → RowsBelowOne n k'
    → ((i j : ℕ) → i < n → j < n → k i j ≤ᶠ k' i j) → ((i : ℕ) → i < n → d i ≤ᶠ d' i)
    → (i : ℕ) → i < n → solution n k d i ≤ᶠ solution n k' d' i

-- of equations whose numbers are each at most those of others, each solution is at most each solution of theirs
abbrev pub LightRises : Type 0
LightRises = (n : ℕ) (k k' : ℕ → ℕ → Fraction) (d d' h h' : ℕ → Fraction) → RowsBelowOne n k'
    → ((i j : ℕ) → i < n → j < n → k i j ≤ᶠ k' i j) → ((i : ℕ) → i < n → d i ≤ᶠ d' i)
    → SolvesEquations n k d h → SolvesEquations n k' d' h'
    → (i : ℕ) → i < n → h i ≤ᶠ h' i
