-- What holds of the light of groups of lamps together.
use Rattle.std.specs.Prelude.{ℕ, ◌<◌, ◌≡◌}
use Rattle.fx_base.specs.Fraction.{Fraction, ◌≈ᶠ◌, ◌*ᶠ◌, whole, sum_to}
use Rattle.interval_system.specs.Equations.{RowsBelowOne, solution}
use Rattle.interval_system.specs.Radiosity.{Radiosity, Light, IsLightOf, AreRowsBelowOne, values}
use Rattle.interval_system.specs.Values.{average, open_count}
use Rattle.dimming_plan.specs.Dimmed.{Lighting, lit_by, sum_of_multiples, together, IsSame}

-- the solution for the sum of m multiples c g of direct lights d g is the sum of the multiples of their solutions
abbrev pub SumsOfMultiples : Type 0
SumsOfMultiples = (n m : ℕ) (k : ℕ → ℕ → Fraction) (c : ℕ → Fraction) (d : ℕ → ℕ → Fraction) → RowsBelowOne n k → (i : ℕ) → i < n
    → solution n k (λ j. sum_to m (λ g. c g *ᶠ d g j)) i ≈ᶠ sum_to m (λ g. c g *ᶠ solution n k (d g) i)

-- m groups in one room, group g with the light l g, of which `each g` solves the equations of the patches; and the light of all of
-- them, each dimmed to c g
pub record AreLit (s : Radiosity) (m : ℕ) (c : ℕ → Fraction) (l : ℕ → Lighting) (all : Light) (each : ℕ → Light) : Type 0 where
  pub exact : s.move ≡ whole 0
  pub some_open : 0 < open_count s.covered s.points
  pub rows : AreRowsBelowOne s.patches
  pub all_solves : IsLightOf (lit_by s (together m c l)).patches all
  pub each_solves : (g : ℕ) → g < m → IsLightOf (lit_by s (l g)).patches (each g)

-- the average of the dimmed room is the sum of the multiples of the groups' averages
abbrev pub PlanIsAverage : Type 0
PlanIsAverage = (s : Radiosity) (m : ℕ) (c : ℕ → Fraction) (l : ℕ → Lighting) (all : Light) (each : ℕ → Light) → AreLit s m c l all each
    → IsSame (average (values (lit_by s (together m c l)) all)) (sum_of_multiples m c (λ g. average (values (lit_by s (l g)) (each g))))
