-- The two ends of a span, as whole numbers of ticks.
use Rattle.std.specs.Prelude.{ℕ, ◌+◌, ◌*◌, ◌<◌, ◌≤◌, ◌≡◌, ℤ, pos, neg_ℤ, ◌≤ℤ◌}

pub record Ends : Type 0 where
  pub lo : ℤ
  pub hi : ℤ

-- it lies between -n and n
abbrev pub IsWithin : ℕ → ℤ → Type 0
IsWithin n z = (neg_ℤ (pos n) ≤ℤ z) × (z ≤ℤ pos n)

-- the greatest whole number whose square is at most that
abbrev pub IsRootBelow : ℕ → ℤ → Type 0
IsRootBelow square z = (k : ℕ) × (z ≡ pos k) × (k * k ≤ square) × (square < (k + 1) * (k + 1))
