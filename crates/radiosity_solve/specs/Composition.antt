-- From bounds shown in ticks to the solutions of equations in fractions that the ticks enclose. These laws speak of no solver and of
-- no room: n patches, coefficients k and direct light d in fractions, and the ticks of one end of each.
use Rattle.std.specs.Prelude.{ℕ, ◌^◌, ◌<◌, ◌≤◌, List, length}
use Rattle.fx_base.specs.declared.Tick.{Tick}
use Rattle.fx_base.specs.Fraction.{Fraction, ◌≤ᶠ◌, ◌+ᶠ◌}
use Rattle.fx_base.specs.Units.{ticks}
use Rattle.interval_system.specs.Equations.{RowsBelowOne, solution}
use Rattle.interval_system.specs.System.{System, IsSystem, NoneHeavy, low_weight, high_weight, low_direct, high_direct}
use Rattle.radiosity_solve.specs.Shown.{IsShownLower, IsShownUpper}
use Rattle.radiosity_solve.specs.Bounds.{tick_at, ticks_solution, IsBelowEverySolution, IsAboveEverySolution}

-- a lower claim shown by lower ends is at most the solution of any equations that are at least those ends
abbrev pub LowerIsBelow : Type 0
LowerIsBelow = (n : ℕ) (k : ℕ → ℕ → Fraction) (d : ℕ → Fraction) (lo : ℕ → ℕ → ℕ) (dlo lower : ℕ → ℕ)
    → RowsBelowOne n k
    → ((i j : ℕ) → i < n → j < n → ticks (lo i j) ≤ᶠ k i j) → ((i : ℕ) → i < n → ticks (dlo i) ≤ᶠ d i)
    → IsShownLower n (2 ^ 36) lo dlo lower → (i : ℕ) → i < n → ticks (lower i) ≤ᶠ solution n k d i

-- an upper claim shown by upper ends is at least the solution of any equations that are at most those ends
abbrev pub UpperIsAbove : Type 0
UpperIsAbove = (n : ℕ) (k : ℕ → ℕ → Fraction) (d : ℕ → Fraction) (hi : ℕ → ℕ → ℕ) (dhi upper : ℕ → ℕ)
    → RowsBelowOne n k
    → ((i j : ℕ) → i < n → j < n → k i j ≤ᶠ ticks (hi i j)) → ((i : ℕ) → i < n → d i ≤ᶠ ticks (dhi i))
    → IsShownUpper n (2 ^ 36) hi dhi upper → (i : ℕ) → i < n → solution n k d i ≤ᶠ ticks (upper i)

-- bounds within `move` of the solution of their ticks are within `move` of the solution of any equations further out
abbrev pub UpperIsWithin : Type 0
UpperIsWithin = (n : ℕ) (k : ℕ → ℕ → Fraction) (d : ℕ → Fraction) (hi : ℕ → ℕ → ℕ) (dhi upper : ℕ → ℕ)
    (move : Fraction) → RowsBelowOne n k
    → ((i j : ℕ) → i < n → j < n → ticks (hi i j) ≤ᶠ k i j) → ((i : ℕ) → i < n → ticks (dhi i) ≤ᶠ d i)
    → ((i : ℕ) → i < n → ticks (upper i) ≤ᶠ (ticks_solution n hi dhi i +ᶠ move))
    → (i : ℕ) → i < n → ticks (upper i) ≤ᶠ (solution n k d i +ᶠ move)

abbrev pub LowerIsWithin : Type 0
LowerIsWithin = (n : ℕ) (k : ℕ → ℕ → Fraction) (d : ℕ → Fraction) (lo : ℕ → ℕ → ℕ) (dlo lower : ℕ → ℕ)
    (move : Fraction) → RowsBelowOne n (λ i j. ticks (lo i j))
    → ((i j : ℕ) → i < n → j < n → k i j ≤ᶠ ticks (lo i j)) → ((i : ℕ) → i < n → d i ≤ᶠ ticks (dlo i))
    → ((i : ℕ) → i < n → ticks_solution n lo dlo i ≤ᶠ (ticks (lower i) +ᶠ move))
    → (i : ℕ) → i < n → solution n k d i ≤ᶠ (ticks (lower i) +ᶠ move)

-- no heavy row: the row sums of the lower and of the upper ends are below one
pub record HasRowsBelowOne (s : System) : Type 0 where
  pub low : RowsBelowOne (length s.rows) (λ i j. ticks (low_weight s i j))
  pub high : RowsBelowOne (length s.rows) (λ i j. ticks (high_weight s i j))

abbrev pub RowsAreBelowOne : Type 0
RowsAreBelowOne = (s : System) → IsSystem s → NoneHeavy s.rows → HasRowsBelowOne s

-- ---- claims

-- it holds every solution of every system in the intervals, and is in order
pub record HoldsEverySolution (s : System) (lower upper : List Tick) : Type 0 where
  pub below : IsBelowEverySolution s (tick_at lower)
  pub above : IsAboveEverySolution s (tick_at upper)
  pub in_order : (i : ℕ) → i < length s.rows → tick_at lower i ≤ tick_at upper i

-- a shown claim does, whoever made it
abbrev pub ShownClaimHolds : Type 0
ShownClaimHolds = (s : System) (lower upper : List Tick) → IsSystem s → NoneHeavy s.rows
    → IsShownLower (length s.rows) (2 ^ 36) (low_weight s) (low_direct s) (tick_at lower)
    → IsShownUpper (length s.rows) (2 ^ 36) (high_weight s) (high_direct s) (tick_at upper)
    → HoldsEverySolution s lower upper
