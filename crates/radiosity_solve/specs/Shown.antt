-- A claim on the solution that a system of ticks shows by one multiplication. s ticks are one.
use Rattle.std.specs.Prelude.{ℕ, ◌+◌, ◌*◌, ◌<◌, ◌≤◌}
use Rattle.interval_system.specs.Whole.{total}
use Rattle.fx_base.specs.Rounded.{down_to, up_to}
-- x / s rounded down, and up
unfoldable pub use Rattle.fx_base.specs.Rounded.{down_to, up_to}

-- the direct light at patch i and what the light x of the n patches sends there, each product rounded down, or up
abbrev pub lower_sum : ℕ → ℕ → (ℕ → ℕ → ℕ) → (ℕ → ℕ) → (ℕ → ℕ) → ℕ → ℕ
lower_sum n s k d x i = d i + total n (λ j. down_to s (k i j * x j))

abbrev pub upper_sum : ℕ → ℕ → (ℕ → ℕ → ℕ) → (ℕ → ℕ) → (ℕ → ℕ) → ℕ → ℕ
upper_sum n s k d x i = d i + total n (λ j. up_to s (k i j * x j))

-- each patch of the lower claim has at most what the claim sends there; each of the upper claim at least that
pub record IsShownLower (n s : ℕ) (k : ℕ → ℕ → ℕ) (d lower : ℕ → ℕ) : Type 0 where
  pub row : (i : ℕ) → i < n → lower i ≤ lower_sum n s k d lower i

pub record IsShownUpper (n s : ℕ) (k : ℕ → ℕ → ℕ) (d upper : ℕ → ℕ) : Type 0 where
  pub row : (i : ℕ) → i < n → upper_sum n s k d upper i ≤ upper i
