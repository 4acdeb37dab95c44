-- One solution and comparison in fractions, and that claims shown in ticks hold the solutions of the fractions that they enclose.
use Rattle.std.proofs.Common.{ℕ, ◌+◌, ◌*◌, ◌<◌, ◌≤◌, ◌≡◌, refl, ap, arith}
use Rattle.std.proofs.Math.Nat.{eq_of_mul-eq-mul_left}
use Rattle.fx_base.specs.Fraction.{Fraction, ◌≤ᶠ◌, ◌≈ᶠ◌, ratio}
use Rattle.fx_base.proofs.Order.{le_trans_f, le_lt_trans_f, le_of_eq_f, ge_of_eq_f}
use Rattle.fx_base.proofs.Ratios.{ratio_num, ratio_den, ratio_le_ratio}
use Rattle.fx_base.proofs.Sums.{sum_to_le}
use Rattle.interval_system.specs.Whole.{IsBelowOne, denominator, numerator}
use Rattle.interval_system.specs.Equations.{SolvesEquations, RowsBelowOne, product_to, common_denominator, over, solution, IsOver}
use Rattle.radiosity_solve.specs.Laws.{OneFractionSolution, OneLight, FractionComparison, LightRises}
use Rattle.radiosity_solve.proofs.Pairs.{SolvesPlainly, none, plain-solves}
use Rattle.radiosity_solve.proofs.Elimination.{eliminated}
use Rattle.radiosity_solve.proofs.Unique.{one_solution, compared}
use Rattle.radiosity_solve.proofs.Over.{product-positive, divides-product, over-is, is_over, rows_over, solves_fractions, solves_whole, below_over}

-- ---- the solution is that of the elimination in whole numbers

-- the whole numbers of equations in fractions
pub whole_k : (n : ℕ) (k : ℕ → ℕ → Fraction) (d : ℕ → Fraction) → ℕ → ℕ → ℕ
whole_k n k d i j = over (common_denominator n k d) (k i j)

pub whole_d : (n : ℕ) (k : ℕ → ℕ → Fraction) (d : ℕ → Fraction) → ℕ → ℕ
whole_d n k d i = over (common_denominator n k d) (d i)

pub whole_over : (n : ℕ) (k : ℕ → ℕ → Fraction) (d : ℕ → Fraction) → IsOver n (common_denominator n k d) (whole_k n k d) (whole_d n k d) k d
unfolding whole_k whole_d
whole_over n k d = is_over n k d

pub solution-is : (n : ℕ) (k : ℕ → ℕ → Fraction) (d : ℕ → Fraction) (i : ℕ)
    → solution n k d i ≡ ratio (numerator n (common_denominator n k d) (whole_k n k d) (whole_d n k d) i) (denominator n (common_denominator n k d) (whole_k n k d))
unfolding solution whole_k whole_d
solution-is n k d i = refl

pub whole_below : (n : ℕ) (k : ℕ → ℕ → Fraction) (d : ℕ → Fraction) → RowsBelowOne n k → IsBelowOne n (common_denominator n k d) (whole_k n k d)
whole_below n k d b = rows_over n (common_denominator n k d) (whole_k n k d) (whole_d n k d) k d (whole_over n k d) b

pub whole_solution : (n : ℕ) (k : ℕ → ℕ → Fraction) (d : ℕ → Fraction) → RowsBelowOne n k
    → SolvesPlainly n (common_denominator n k d) (whole_k n k d) (whole_d n k d) (denominator n (common_denominator n k d) (whole_k n k d))
    (numerator n (common_denominator n k d) (whole_k n k d) (whole_d n k d))
whole_solution n k d b = eliminated n (common_denominator n k d) (whole_k n k d) (whole_d n k d) (whole_below n k d b)

ratio-over : (h m : ℕ) → 0 < m → h * (ratio h m).den ≡ (ratio h m).num * m
ratio-over h m p = rw (ratio_num h m p, ratio_den h m p) refl

-- ---- one solution

equal-over : (o a m b : ℕ) (f : Fraction) → 0 < m → o * a ≡ m * b → a * f.den ≡ f.num * m → f.num * o ≡ b * f.den
equal-over o a m b f p e is =
    eq_of_mul-eq-mul_left m p (f.num * o) (b * f.den) (omega (arith, ap (λ (z : ℕ). z * f.den) e, ap (λ (z : ℕ). o * z) is))

-- the solution in fractions is that of the whole numbers over any one denominator
pub only-solution : (n q : ℕ) (kk : ℕ → ℕ → ℕ) (ee : ℕ → ℕ) (k : ℕ → ℕ → Fraction) (d : ℕ → Fraction) (h : ℕ → Fraction)
    → IsOver n q kk ee k d → RowsBelowOne n k → SolvesEquations n k d h → (i : ℕ) → i < n → h i ≈ᶠ ratio (numerator n q kk ee i) (denominator n q kk)
unfolding none
only-solution n q kk ee k d h o b s i l =
    let m : ℕ = product_to n (λ j. (h j).den) in
    let positive : 0 < m = product-positive n (λ j. (h j).den) (λ j. (h j).positive) in
    let is : (j : ℕ) → j < n → over m (h j) * (h j).den ≡ (h j).num * m = λ j w. over-is m (h j) (divides-product n (λ j. (h j).den) j w) in
    let below : IsBelowOne n q kk = rows_over n q kk ee k d o b in
    let t : SolvesPlainly n q kk ee (denominator n q kk) (numerator n q kk ee) = eliminated n q kk ee below in
    let u : SolvesPlainly n q kk ee m (λ j. over m (h j)) = solves_whole n q kk ee k d m (λ j. over m (h j)) h o positive is s in
    let same : denominator n q kk * over m (h i) + m * 0 ≡ denominator n q kk * 0 + m * numerator n q kk ee i =
    one_solution n q kk ee none m (λ j. over m (h j)) none (denominator n q kk) (numerator n q kk ee) none below
    (plain-solves n q kk ee m (λ j. over m (h j)) u) (plain-solves n q kk ee (denominator n q kk) (numerator n q kk ee) t) i l in
    record {
      cross = rw (ratio_num (numerator n q kk ee i) (denominator n q kk) t.positive, ratio_den (numerator n q kk ee i) (denominator n q kk) t.positive)
          (equal-over (denominator n q kk) (over m (h i)) m (numerator n q kk ee i) (h i) positive (omega arith) (is i l));
    }

pub elimination_solves : (n q : ℕ) (kk : ℕ → ℕ → ℕ) (ee : ℕ → ℕ) (k : ℕ → ℕ → Fraction) (d : ℕ → Fraction) → IsOver n q kk ee k d → RowsBelowOne n k
    → SolvesEquations n k d (λ i. ratio (numerator n q kk ee i) (denominator n q kk))
elimination_solves n q kk ee k d o b =
    let t : SolvesPlainly n q kk ee (denominator n q kk) (numerator n q kk ee) = eliminated n q kk ee (rows_over n q kk ee k d o b) in
    solves_fractions n q kk ee k d (denominator n q kk) (numerator n q kk ee) (λ i. ratio (numerator n q kk ee i) (denominator n q kk)) o
    (λ j w. ratio-over (numerator n q kk ee j) (denominator n q kk) t.positive) t

pub has_one_fraction_solution : OneFractionSolution
unfolding solution
has_one_fraction_solution n k d b = record {
  solves = elimination_solves n q (λ i j. over q (k i j)) (λ i. over q (d i)) k d (is_over n k d) b;
  alone = λ h s i l. only-solution n q (λ i j. over q (k i j)) (λ i. over q (d i)) k d h (is_over n k d) b s i l;
}
  where
    q : ℕ
    q = common_denominator n k d

pub one_light : OneLight
one_light s rows =
    let low = has_one_fraction_solution s.size (λ i j. (s.coefficient i j).lo) (λ i. (s.direct i).lo) rows.lower in
    let high = has_one_fraction_solution s.size (λ i j. (s.coefficient i j).hi) (λ i. (s.direct i).hi) rows.upper in
    record {
      light = record {
        lower = solution s.size (λ i j. (s.coefficient i j).lo) (λ i. (s.direct i).lo);
        upper = solution s.size (λ i j. (s.coefficient i j).hi) (λ i. (s.direct i).hi);
      };
      is = record { lower = low.solves; upper = high.solves };
      alone = λ other is i l. (low.alone other.lower is.lower i l, high.alone other.upper is.upper i l);
    }

-- the elimination over any one denominator gives the solution
pub solution-over : (n q : ℕ) (kk : ℕ → ℕ → ℕ) (ee : ℕ → ℕ) (k : ℕ → ℕ → Fraction) (d : ℕ → Fraction) → IsOver n q kk ee k d → RowsBelowOne n k
    → (i : ℕ) → i < n → ratio (numerator n q kk ee i) (denominator n q kk) ≈ᶠ solution n k d i
solution-over n q kk ee k d o b i l =
    (has_one_fraction_solution n k d b).alone (λ i. ratio (numerator n q kk ee i) (denominator n q kk)) (elimination_solves n q kk ee k d o b) i l

-- ---- comparison

pub rows_below_larger : (n : ℕ) (k k' : ℕ → ℕ → Fraction) → RowsBelowOne n k' → ((i j : ℕ) → i < n → j < n → k i j ≤ᶠ k' i j) → RowsBelowOne n k
rows_below_larger n k k' b less = record { row = λ i l. le_lt_trans_f (sum_to_le n (k i) (k' i) (λ j w. less i j l w)) (b.row i l) }

pub solutions_ordered : FractionComparison
unfolding none
solutions_ordered n k k' d d' b' weights lights i l =
    let b : RowsBelowOne n k = rows_below_larger n k k' b' weights in
    let q : ℕ = common_denominator n k d in
    let q' : ℕ = common_denominator n k' d' in
    let o : IsOver n q' (whole_k n k' d') (whole_d n k' d') k' d' = whole_over n k' d' in
    let s : SolvesPlainly n q (whole_k n k d) (whole_d n k d) (denominator n q (whole_k n k d)) (numerator n q (whole_k n k d) (whole_d n k d)) = whole_solution n k d b in
    let t : SolvesPlainly n q' (whole_k n k' d') (whole_d n k' d') (denominator n q' (whole_k n k' d')) (numerator n q' (whole_k n k' d') (whole_d n k' d')) = whole_solution n k' d' b' in
    let less : denominator n q' (whole_k n k' d') * numerator n q (whole_k n k d) (whole_d n k d) i
    ≤ denominator n q' (whole_k n k' d') * 0 + denominator n q (whole_k n k d) * numerator n q' (whole_k n k' d') (whole_d n k' d') i =
    compared n q (whole_k n k d) (whole_d n k d) (denominator n q (whole_k n k d)) (numerator n q (whole_k n k d) (whole_d n k d)) none
    q' (whole_k n k' d') (whole_d n k' d') (denominator n q' (whole_k n k' d')) (numerator n q' (whole_k n k' d') (whole_d n k' d')) (whole_below n k d b) o.positive
    (below_over n q (whole_k n k d) (whole_d n k d) k d q' (whole_k n k' d') (whole_d n k' d') k' d' (whole_over n k d) o weights lights)
    (plain-solves n q (whole_k n k d) (whole_d n k d) (denominator n q (whole_k n k d)) (numerator n q (whole_k n k d) (whole_d n k d)) s) t i l in
    rw (solution-is n k d i, solution-is n k' d' i)
    (ratio_le_ratio (numerator n q (whole_k n k d) (whole_d n k d) i) (denominator n q (whole_k n k d))
    (numerator n q' (whole_k n k' d') (whole_d n k' d') i) (denominator n q' (whole_k n k' d')) s.positive t.positive (omega arith))

pub light_rises : LightRises
light_rises n k k' d d' h h' b' weights lights s s' i l =
    le_trans_f (le_of_eq_f ((has_one_fraction_solution n k d (rows_below_larger n k k' b' weights)).alone h s i l))
    (le_trans_f (solutions_ordered n k k' d d' b' weights lights i l) (ge_of_eq_f ((has_one_fraction_solution n k' d' b').alone h' s' i l)))
