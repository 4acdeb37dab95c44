-- A row of a turn: its direct light, and what the patches send there.
use Rattle.std.proofs.Common.{ℕ, ◌+◌, ◌^◌, ◌≤◌, ◌≡◌, refl, List, [], length, get_or}
use Rattle.std.specs.Prelude.{ℤ, pos, ◌≤ℤ◌}
use Rattle.fx_base.specs.declared.Tick.{Tick}
use Rattle.fx_base.specs.declared.Weight.{Weight}
use Rattle.fx_base.specs.Units.{natural}
use Rattle.fx_base.proofs.Rounding.{natural_most}
use Rattle.interval_system.specs.Sent.{sent_low, sent_high}
use Rattle.interval_system.specs.System.{System, low_direct, high_direct}
use Rattle.radiosity_solve.specs.Turn.{next_low, next_high}
pub use Rattle.fx_base.proofs.Shares.{end_small}

pub light_small : (z : ℤ) → z ≤ℤ pos (2 ^ 82) → natural z ≤ 2 ^ 82
light_small z h = natural_most z (2 ^ 82) h

pub low_row : (s : System) (x : List Tick) (i : ℕ) (row : List Weight) → row ≡ get_or s.rows i [] → length row ≡ length s.rows
    → low_direct s i + sent_low row x (length row) ≡ next_low s x i
unfolding sent_low next_low
low_row s x i row is size = rw (size, is) refl

pub high_row : (s : System) (x : List Tick) (i : ℕ) (row : List Weight) → row ≡ get_or s.rows i [] → length row ≡ length s.rows
    → high_direct s i + sent_high row x (length row) ≡ next_high s x i
unfolding sent_high next_high
high_row s x i row is size = rw (size, is) refl

pub ruleset rows = (low_row, high_row)
