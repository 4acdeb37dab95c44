-- The radiosity equations of patches whose numbers are each known to lie in an interval, the light that solves them, and the values
-- at the points of a task that this light gives.
use Rattle.std.specs.Prelude.{ℕ, ◌<◌, Bool}
use Rattle.fx_base.specs.Fraction.{Fraction, ◌+ᶠ◌, ◌-ᶠ◌, ◌≈ᶠ◌}
use Rattle.fx_base.specs.Interval.{Interval}
use Rattle.interval_system.specs.Equations.{SolvesEquations, RowsBelowOne, value_by}
use Rattle.interval_system.specs.Values.{Grid}

-- ---- patches

-- the coefficients and the direct light of patches
pub record Enclosures : Type 0 where
  pub size : ℕ
  pub coefficient : ℕ → ℕ → Interval
  pub direct : ℕ → Interval

-- the light of each patch where every number is at its lower end, and where every number is at its upper end
pub record Light : Type 0 where
  pub lower : ℕ → Fraction
  pub upper : ℕ → Fraction

-- such light solves H = d + K H by the lower ends of d and K, and by their upper ends
pub record IsLightOf (s : Enclosures) (light : Light) : Type 0 where
  pub lower : SolvesEquations s.size (λ i j. (s.coefficient i j).lo) (λ i. (s.direct i).lo) light.lower
  pub upper : SolvesEquations s.size (λ i j. (s.coefficient i j).hi) (λ i. (s.direct i).hi) light.upper

-- the coefficients of each patch add up to less than one, by their lower and by their upper ends
pub record AreRowsBelowOne (s : Enclosures) : Type 0 where
  pub lower : RowsBelowOne s.size (λ i j. (s.coefficient i j).lo)
  pub upper : RowsBelowOne s.size (λ i j. (s.coefficient i j).hi)

-- there is such light, and only one
pub record HasOneLight (s : Enclosures) : Type 0 where
  pub light : Light
  pub is : IsLightOf s light
  pub alone : (other : Light) → IsLightOf s other → (i : ℕ) → i < s.size → (other.lower i ≈ᶠ light.lower i) × (other.upper i ≈ᶠ light.upper i)

-- ---- and points

-- patches, and points with the coefficients and the direct light that they have
pub record Radiosity : Type 0 where
  pub patches : Enclosures
  pub points : ℕ
  pub covered : ℕ → Bool
  pub coefficient : ℕ → ℕ → Interval
  pub direct : ℕ → Interval
  -- by how much the light of the patches is moved outward before it is used
  pub move : Fraction

-- the value at point g: its direct light, and what the patches of this light send there
unfoldable pub value : Radiosity → Light → ℕ → Interval
value s light g = record {
  lo = value_by s.patches.size (s.direct g).lo (λ j. (s.coefficient g j).lo) (λ j. light.lower j -ᶠ s.move);
  hi = value_by s.patches.size (s.direct g).hi (λ j. (s.coefficient g j).hi) (λ j. light.upper j +ᶠ s.move);
}

-- the values at all points, of which the average and the uniformity are taken
unfoldable pub values : Radiosity → Light → Grid
values s light = record { points = s.points; covered = s.covered; value = value s light }
