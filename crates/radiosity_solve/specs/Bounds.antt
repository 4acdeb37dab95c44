-- What the bounds of a system's solution are.
use Rattle.std.specs.Prelude.{ℕ, ◌*◌, ◌^◌, ◌<◌, ◌≤◌, ◌≡◌, List, length, All, ℤ, pos, ◌*ℤ◌, ◌≤ℤ◌}
use Rattle.fx_base.specs.declared.Tick.{Tick}
use Rattle.fx_base.specs.Fraction.{Fraction, ◌≤ᶠ◌, ◌+ᶠ◌, ratio}
use Rattle.fx_base.specs.Units.{ticks}
use Rattle.interval_system.specs.Whole.{IsBelowOne, IsSolution}
use Rattle.interval_system.specs.Equations.{solution}
use Rattle.interval_system.specs.System.{System, low_weight, high_weight, low_direct, high_direct}
use Rattle.fx_base.specs.Bound.{IsEnd}
use Rattle.interval_system.specs.Ticks.{tick_at}
use Rattle.radiosity_solve.specs.Shown.{IsShownLower, IsShownUpper}
use Rattle.radiosity_solve.specs.Laws.{HasOneSolution}
-- the ends are lists of ticks from 0 to 2^90
pub use Rattle.fx_base.specs.Bound.{IsEnd}
pub use Rattle.interval_system.specs.Ticks.{no_tick, tick_at}

-- ---- the systems in the intervals

-- coefficients k i j / q and light e i / q between the ends of the system's intervals
pub record IsWithin (s : System) (q : ℕ) (k : ℕ → ℕ → ℕ) (e : ℕ → ℕ) : Type 0 where
  pub positive : 0 < q
  pub low : (i j : ℕ) → i < length s.rows → j < length s.rows → low_weight s i j * q ≤ k i j * 2 ^ 36
  pub high : (i j : ℕ) → i < length s.rows → j < length s.rows → k i j * 2 ^ 36 ≤ high_weight s i j * q
  pub low_light : (i : ℕ) → i < length s.rows → low_direct s i * q ≤ e i * 2 ^ 36
  pub high_light : (i : ℕ) → i < length s.rows → e i * 2 ^ 36 ≤ high_direct s i * q

-- each of them has row sums below one, and so exactly one solution
pub record IsUniquelySolved (s : System) : Type 0 where
  pub below : (q : ℕ) (k : ℕ → ℕ → ℕ) (e : ℕ → ℕ) → IsWithin s q k e → IsBelowOne (length s.rows) q k
  pub one : (q : ℕ) (k : ℕ → ℕ → ℕ) (e : ℕ → ℕ) → IsWithin s q k e
      → HasOneSolution (length s.rows) q k (λ i. pos (e i))

-- x i ticks are at most what any solution of any of them has at patch i
pub record IsBelowEverySolution (s : System) (x : ℕ → ℕ) : Type 0 where
  pub below : (q : ℕ) (k : ℕ → ℕ → ℕ) (e : ℕ → ℕ) (m : ℕ) (h : ℕ → ℤ)
      → IsWithin s q k e → IsSolution (length s.rows) q k (λ i. pos (e i)) m h
      → (i : ℕ) → i < length s.rows → (pos m *ℤ pos (x i)) ≤ℤ (pos (2 ^ 36) *ℤ h i)

pub record IsAboveEverySolution (s : System) (x : ℕ → ℕ) : Type 0 where
  pub above : (q : ℕ) (k : ℕ → ℕ → ℕ) (e : ℕ → ℕ) (m : ℕ) (h : ℕ → ℤ)
      → IsWithin s q k e → IsSolution (length s.rows) q k (λ i. pos (e i)) m h
      → (i : ℕ) → i < length s.rows → (pos (2 ^ 36) *ℤ h i) ≤ℤ (pos m *ℤ pos (x i))

-- ---- the solutions of all lower ends, and of all upper ends

-- the solution of equations in ticks
abbrev pub ticks_solution : ℕ → (ℕ → ℕ → ℕ) → (ℕ → ℕ) → ℕ → Fraction
ticks_solution n k d i = solution n (λ i j. ticks (k i j)) (λ i. ticks (d i)) i

abbrev pub lower_solution : System → ℕ → Fraction
lower_solution s i = ticks_solution (length s.rows) (low_weight s) (low_direct s) i

abbrev pub upper_solution : System → ℕ → Fraction
upper_solution s i = ticks_solution (length s.rows) (high_weight s) (high_direct s) i

-- 1/10,000 lux
abbrev pub ten_thousandth : Fraction
ten_thousandth = ratio 1 10000

-- ---- the answers

pub record IsLowerAnswer (s : System) (lower : List Tick) : Type 0 where
  pub size : length lower ≡ length s.rows
  pub in_range : All IsEnd lower
  pub shown : IsShownLower (length s.rows) (2 ^ 36) (low_weight s) (low_direct s) (tick_at lower)
  pub near : (i : ℕ) → i < length s.rows → lower_solution s i ≤ᶠ (ticks (tick_at lower i) +ᶠ ten_thousandth)
  pub below_all : IsBelowEverySolution s (tick_at lower)

pub record IsUpperAnswer (s : System) (upper : List Tick) : Type 0 where
  pub size : length upper ≡ length s.rows
  pub in_range : All IsEnd upper
  pub shown : IsShownUpper (length s.rows) (2 ^ 36) (high_weight s) (high_direct s) (tick_at upper)
  pub near : (i : ℕ) → i < length s.rows → ticks (tick_at upper i) ≤ᶠ (upper_solution s i +ᶠ ten_thousandth)
  pub above_all : IsAboveEverySolution s (tick_at upper)

-- no lower end is above its upper end
pub record IsInOrder (s : System) (lower upper : List Tick) : Type 0 where
  pub at : (i : ℕ) → i < length s.rows → tick_at lower i ≤ tick_at upper i
