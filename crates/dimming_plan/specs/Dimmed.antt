-- Patches and points with other light from their lamps, and the light of several groups of lamps together.
use Rattle.std.specs.Prelude.{ℕ}
use Rattle.fx_base.specs.Fraction.{Fraction, ◌≈ᶠ◌, ◌*ᶠ◌, sum_to}
use Rattle.fx_base.specs.Interval.{Interval}
use Rattle.interval_system.specs.Radiosity.{Radiosity}

-- the direct light at patches and at points
pub record Lighting : Type 0 where
  pub patches : ℕ → Interval
  pub points : ℕ → Interval

-- the same patches and points in this light
abbrev pub lit_by : Radiosity → Lighting → Radiosity
lit_by s l = record {
  patches = record { size = s.patches.size; coefficient = s.patches.coefficient; direct = l.patches };
  points = s.points;
  covered = s.covered;
  coefficient = s.coefficient;
  direct = l.points;
  move = s.move;
}

-- the sum of c g times the interval i g, for the first m numbers g
abbrev pub sum_of_multiples : ℕ → (ℕ → Fraction) → (ℕ → Interval) → Interval
sum_of_multiples m c i = record { lo = sum_to m (λ g. c g *ᶠ (i g).lo); hi = sum_to m (λ g. c g *ᶠ (i g).hi) }

-- m groups together, each dimmed to c g of its light
abbrev pub together : ℕ → (ℕ → Fraction) → (ℕ → Lighting) → Lighting
together m c l = record { patches = λ i. sum_of_multiples m c (λ g. (l g).patches i); points = λ p. sum_of_multiples m c (λ g. (l g).points p) }

-- both ends are the same numbers
pub record IsSame (i j : Interval) : Type 0 where
  pub low : i.lo ≈ᶠ j.lo
  pub high : i.hi ≈ᶠ j.hi
