-- How far the search for a slope's angle has come, among the multiples of a unit of so many millionths of a degree.
use Rattle.std.specs.Prelude.{ℕ, ◌+◌, ◌*◌, ◌<◌, ◌≤◌}
use Rattle.fx_base.specs.Fraction.{◌≤ᶠ◌}
use Rattle.fx_base.specs.Units.{millionths}
use Rattle.series_enclose.specs.Slant.{slant}

-- m millionths are at most each upper end of the slope's angle
pub record IsBelow (x y m : ℕ) : Type 0 where
  pub below : (n : ℕ) → millionths m ≤ᶠ (slant n x y).hi

-- each later angle is at least each lower end
pub record IsBefore (x y m : ℕ) : Type 0 where
  pub above : (step n : ℕ) → m + step ≤ 45000000 → 0 < step → (slant n x y).lo ≤ᶠ millionths (m + step)

-- the angle lies between two multiples of the unit: the one is below it, and it is before what comes after the other
pub record IsFound (x y unit low high : ℕ) : Type 0 where
  pub order : low < high
  pub within : high * unit ≤ 45000000
  pub below : IsBelow x y (low * unit)
  pub above : IsBefore x y (high * unit)
