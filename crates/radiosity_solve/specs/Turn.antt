-- A turn of the solver: each row once more, with the light that the last turn gave.
use Rattle.std.specs.Prelude.{ℕ, ◌+◌, ◌<◌, ◌≤◌, ◌≡◌, List, length, slice_index_or, pos}
use Rattle.fx_base.specs.declared.Tick.{Tick}
use Rattle.interval_system.specs.System.{System, low_weight, high_weight, low_direct, high_direct}
use Rattle.radiosity_solve.specs.Shown.{lower_sum, upper_sum}
use Rattle.radiosity_solve.specs.Bounds.{tick_at, no_tick}

-- the light that the list x gives to patch i, of the lower ends and of the upper ends
unfoldable pub next_low : System → List Tick → ℕ → ℕ
next_low s x i = lower_sum (length s.rows) 68719476736 (low_weight s) (low_direct s) (tick_at x) i

unfoldable pub next_high : System → List Tick → ℕ → ℕ
next_high s x i = upper_sum (length s.rows) 68719476736 (high_weight s) (high_direct s) (tick_at x) i

-- `into` is that light at each patch
pub record IsLowerTurn (s : System) (from into : List Tick) : Type 0 where
  pub row : (i : ℕ) → i < length s.rows → slice_index_or into i no_tick ≡ record { 0 = pos (next_low s from i) }

pub record IsUpperTurn (s : System) (from into : List Tick) : Type 0 where
  pub row : (i : ℕ) → i < length s.rows → slice_index_or into i no_tick ≡ record { 0 = pos (next_high s from i) }

-- no number of the two lists differs by more than `most` ticks
pub record IsChangedBy (most : ℕ) (from into : List Tick) : Type 0 where
  pub down : (i : ℕ) → i < length from → tick_at from i ≤ tick_at into i + most
  pub up : (i : ℕ) → i < length from → tick_at into i ≤ tick_at from i + most

-- no number of the list `high` is below that of `low`, or more than `most` ticks above it
pub record IsRiseBy (most : ℕ) (low high : List Tick) : Type 0 where
  pub up : (i : ℕ) → i < length low → tick_at low i ≤ tick_at high i
  pub little : (i : ℕ) → i < length low → tick_at high i ≤ tick_at low i + most
