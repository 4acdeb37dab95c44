-- The light of groups together: sums of multiples of direct lights, of the light of the patches, and of the values at the points.
use Rattle.std.proofs.Common.{ℕ, ◌<◌, ◌≡◌, Bool, sym, subst}
use Rattle.fx_base.specs.Fraction.{Fraction, ◌≤ᶠ◌, ◌≈ᶠ◌, ◌+ᶠ◌, ◌-ᶠ◌, ◌*ᶠ◌, whole, sum_to}
use Rattle.fx_base.proofs.Order.{eq_refl_f, eq_sym_f, eq_trans_f, eq_of_le_f, le_of_eq_f, ge_of_eq_f, le_add_f, add_zero_f, add_mul_f, mul_add_f, sub_le_self_f, le_sub_f}
use Rattle.fx_base.proofs.Sums.{sum_to_add, add_sum_to}
use Rattle.interval_system.specs.Equations.{RowsBelowOne, SolvesEquations, solution, value_by}
use Rattle.interval_system.specs.Radiosity.{Radiosity, Light, IsLightOf, AreRowsBelowOne, value, values}
use Rattle.interval_system.specs.Values.{average, mean, open_count}
use Rattle.radiosity_solve.proofs.Fractions.{has_one_fraction_solution}
use Rattle.scene_system.proofs.MeanOrder.{mean_le}
use Rattle.dimming_plan.specs.Dimmed.{Lighting, lit_by, sum_of_multiples, together, IsSame}
use Rattle.dimming_plan.specs.LightLaws.{SumsOfMultiples, AreLit, PlanIsAverage}
use Rattle.dimming_plan.proofs.Linear.{add_eq, mul_eq, sum_to_eq, linear_sum, sent_is_linear, mean_is_linear}

-- ---- what is given at a place

value_by_eq : (n : ℕ) (d e : Fraction) (k x y : ℕ → Fraction) → d ≈ᶠ e → ((j : ℕ) → j < n → x j ≈ᶠ y j) → value_by n d k x ≈ᶠ value_by n e k y
unfolding value_by
value_by_eq n d e k x y own others = add_eq own (sum_to_eq n (λ j. k j *ᶠ x j) (λ j. k j *ᶠ y j) (λ j l. mul_eq (eq_refl_f (k j)) (others j l)))

value_by_sum : (n m : ℕ) (c d : ℕ → Fraction) (k : ℕ → Fraction) (x : ℕ → ℕ → Fraction)
    → value_by n (sum_to m (λ g. c g *ᶠ d g)) k (λ j. sum_to m (λ g. c g *ᶠ x g j)) ≈ᶠ sum_to m (λ g. c g *ᶠ value_by n (d g) k (x g))
unfolding value_by
value_by_sum n m c d k x =
    let sent : ℕ → Fraction = λ g. sum_to n (λ j. k j *ᶠ x g j) in
    eq_trans_f (add_eq (eq_refl_f (sum_to m (λ g. c g *ᶠ d g))) (linear_sum (λ y. sum_to n (λ j. k j *ᶠ y j)) m c x (sent_is_linear n k)))
    (eq_trans_f (eq_of_le_f (add_sum_to m (λ g. c g *ᶠ d g) (λ g. c g *ᶠ sent g)) (sum_to_add m (λ g. c g *ᶠ d g) (λ g. c g *ᶠ sent g)))
    (sum_to_eq m (λ g. (c g *ᶠ d g) +ᶠ (c g *ᶠ sent g)) (λ g. c g *ᶠ (d g +ᶠ sent g)) (λ g l. eq_of_le_f (add_mul_f (c g) (d g) (sent g)) (mul_add_f (c g) (d g) (sent g)))))

-- ---- the equations of the patches

-- a sum of multiples of solutions solves the equations for the sum of the multiples of the direct lights
multiples_solve : (n m : ℕ) (k : ℕ → ℕ → Fraction) (c : ℕ → Fraction) (d x : ℕ → ℕ → Fraction) → ((g : ℕ) → g < m → SolvesEquations n k (d g) (x g))
    → SolvesEquations n k (λ j. sum_to m (λ g. c g *ᶠ d g j)) (λ j. sum_to m (λ g. c g *ᶠ x g j))
multiples_solve n m k c d x each = record {
  row = λ i l. eq_trans_f
      (sum_to_eq m (λ g. c g *ᶠ x g i) (λ g. c g *ᶠ value_by n (d g i) (k i) (x g)) (λ g h. mul_eq (eq_refl_f (c g)) ((each g h).row i l)))
      (eq_sym_f (value_by_sum n m c (λ g. d g i) (k i) x));
}

pub sums_of_multiples : SumsOfMultiples
sums_of_multiples n m k c d rows i l =
    eq_sym_f ((has_one_fraction_solution n k (λ j. sum_to m (λ g. c g *ᶠ d g j)) rows).alone (λ j. sum_to m (λ g. c g *ᶠ solution n k (d g) j))
    (multiples_solve n m k c d (λ g. solution n k (d g)) (λ g h. (has_one_fraction_solution n k (d g) rows).solves)) i l)

-- any light that solves the equations for all is the sum of the multiples
all_is : (n m : ℕ) (k : ℕ → ℕ → Fraction) (c : ℕ → Fraction) (d x : ℕ → ℕ → Fraction) (all : ℕ → Fraction) → RowsBelowOne n k
    → SolvesEquations n k (λ j. sum_to m (λ g. c g *ᶠ d g j)) all → ((g : ℕ) → g < m → SolvesEquations n k (d g) (x g))
    → (j : ℕ) → j < n → all j ≈ᶠ sum_to m (λ g. c g *ᶠ x g j)
all_is n m k c d x all rows solves each j l =
    let one = has_one_fraction_solution n k (λ i. sum_to m (λ g. c g *ᶠ d g i)) rows in
    eq_trans_f (one.alone all solves j l) (eq_sym_f (one.alone (λ i. sum_to m (λ g. c g *ᶠ x g i)) (multiples_solve n m k c d x each) j l))

-- ---- the mean of the values

mean_eq : (covered : ℕ → Bool) (v w : ℕ → Fraction) (n : ℕ) → 0 < open_count covered n → ((g : ℕ) → g < n → v g ≈ᶠ w g) → mean covered v n ≈ᶠ mean covered w n
mean_eq covered v w n some h = eq_of_le_f (mean_le covered v w n some (λ g l o. le_of_eq_f (h g l))) (mean_le covered w v n some (λ g l o. ge_of_eq_f (h g l)))

-- the mean over points p of what patches give there, of which each is seen to be moved by nothing
mean_of_all : (points n m : ℕ) (covered : ℕ → Bool) (c : ℕ → Fraction) (k d : ℕ → ℕ → Fraction) (all : ℕ → Fraction) (x : ℕ → ℕ → Fraction) → 0 < open_count covered points
    → ((j : ℕ) → j < n → all j ≈ᶠ sum_to m (λ g. c g *ᶠ x g j))
    → mean covered (λ p. value_by n (sum_to m (λ g. c g *ᶠ d g p)) (k p) all) points ≈ᶠ sum_to m (λ g. c g *ᶠ mean covered (λ p. value_by n (d g p) (k p) (x g)) points)
mean_of_all points n m covered c k d all x some same =
    eq_trans_f
    (mean_eq covered (λ p. value_by n (sum_to m (λ g. c g *ᶠ d g p)) (k p) all) (λ p. sum_to m (λ g. c g *ᶠ value_by n (d g p) (k p) (x g))) points some
    (λ p l. eq_trans_f (value_by_eq n (sum_to m (λ g. c g *ᶠ d g p)) (sum_to m (λ g. c g *ᶠ d g p)) (k p) all (λ j. sum_to m (λ g. c g *ᶠ x g j)) (eq_refl_f (sum_to m (λ g. c g *ᶠ d g p))) same)
    (value_by_sum n m c (λ g. d g p) (k p) x)))
    (linear_sum (λ v. mean covered v points) m c (λ g p. value_by n (d g p) (k p) (x g)) (mean_is_linear covered points some))

-- ---- nothing is moved

up_nothing : (x e : Fraction) → e ≡ whole 0 → (x +ᶠ e) ≈ᶠ x
up_nothing x e h = rw h (eq_of_le_f (add_zero_f x) (le_add_f x (whole 0)))

down_nothing : (x e : Fraction) → e ≡ whole 0 → (x -ᶠ e) ≈ᶠ x
down_nothing x e h = rw h (eq_of_le_f (sub_le_self_f x (whole 0)) (le_sub_f x (whole 0) (add_zero_f x)))

-- ---- the average of the dimmed room

lower_is : (s : Radiosity) (m : ℕ) (c : ℕ → Fraction) (l : ℕ → Lighting) (all : Light) (each : ℕ → Light) → AreLit s m c l all each
    → (j : ℕ) → j < s.patches.size → (all.lower j -ᶠ s.move) ≈ᶠ sum_to m (λ g. c g *ᶠ ((each g).lower j -ᶠ s.move))
lower_is s m c l all each lit j inside =
    eq_trans_f (down_nothing (all.lower j) s.move lit.exact)
    (eq_trans_f (all_is s.patches.size m (λ i k. (s.patches.coefficient i k).lo) c (λ g i. ((l g).patches i).lo) (λ g. (each g).lower) all.lower lit.rows.lower lit.all_solves.lower (λ g h. (lit.each_solves g h).lower) j inside)
    (sum_to_eq m (λ g. c g *ᶠ (each g).lower j) (λ g. c g *ᶠ ((each g).lower j -ᶠ s.move)) (λ g h. mul_eq (eq_refl_f (c g)) (eq_sym_f (down_nothing ((each g).lower j) s.move lit.exact)))))

upper_is : (s : Radiosity) (m : ℕ) (c : ℕ → Fraction) (l : ℕ → Lighting) (all : Light) (each : ℕ → Light) → AreLit s m c l all each
    → (j : ℕ) → j < s.patches.size → (all.upper j +ᶠ s.move) ≈ᶠ sum_to m (λ g. c g *ᶠ ((each g).upper j +ᶠ s.move))
upper_is s m c l all each lit j inside =
    eq_trans_f (up_nothing (all.upper j) s.move lit.exact)
    (eq_trans_f (all_is s.patches.size m (λ i k. (s.patches.coefficient i k).hi) c (λ g i. ((l g).patches i).hi) (λ g. (each g).upper) all.upper lit.rows.upper lit.all_solves.upper (λ g h. (lit.each_solves g h).upper) j inside)
    (sum_to_eq m (λ g. c g *ᶠ (each g).upper j) (λ g. c g *ᶠ ((each g).upper j +ᶠ s.move)) (λ g h. mul_eq (eq_refl_f (c g)) (eq_sym_f (up_nothing ((each g).upper j) s.move lit.exact)))))

pub plan_is_average : PlanIsAverage
unfolding average values value
plan_is_average s m c l all each lit = record {
  low = mean_of_all s.points s.patches.size m s.covered c (λ p j. (s.coefficient p j).lo) (λ g p. ((l g).points p).lo) (λ j. all.lower j -ᶠ s.move) (λ g j. (each g).lower j -ᶠ s.move)
      lit.some_open (lower_is s m c l all each lit);
  high = mean_of_all s.points s.patches.size m s.covered c (λ p j. (s.coefficient p j).hi) (λ g p. ((l g).points p).hi) (λ j. all.upper j +ᶠ s.move) (λ g j. (each g).upper j +ᶠ s.move)
      lit.some_open (upper_is s m c l all each lit);
}
