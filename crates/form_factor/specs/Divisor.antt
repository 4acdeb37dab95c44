-- By what a coefficient is divided. With r and the distances f before the planes made greater alike, and s and the area a alike, the
-- coefficient is reflect * f * a / (1000 r (p s + a)): here b is 1000 r, p is in ticks, and the divisor d stands for d * 2^59.
use Rattle.std.specs.Prelude.{ℕ, ◌+◌, ◌*◌, ◌^◌, ◌≤◌}

pub record IsAbove (b p s a d : ℕ) : Type 0 where
  pub above : b * (p * s + a * 2 ^ 36) ≤ d * 2 ^ 59

pub record IsNear (b p s a d : ℕ) : Type 0 where
  pub near : d * 2 ^ 59 ≤ b * (p * s + a * 2 ^ 36 + 4096) + 2 ^ 59
