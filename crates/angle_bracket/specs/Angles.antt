-- The angles between which a slope's angle is named.
use Rattle.std.specs.Prelude.{ℕ, ◌*◌, ◌≤◌, ◌≡◌, ℤ, pos}

-- a multiple of 125 millionths from 0 to 45 degrees
abbrev pub IsStepAngle : ℤ → Type 0
IsStepAngle z = (step : ℕ) × (step ≤ 360000) × (z ≡ pos (step * 125))
