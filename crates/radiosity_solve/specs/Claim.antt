-- When a system shows a claim, a lower and an upper bound for the light of each patch, whoever made it.
use Rattle.std.specs.Prelude.{ℕ, ◌<◌, ◌≤◌, List, length}
use Rattle.fx_base.specs.declared.Tick.{Tick}
use Rattle.interval_system.specs.System.{System, IsSystem, NoneHeavy}
use Rattle.interval_system.specs.Ticks.{tick_at}
use Rattle.radiosity_solve.specs.Turn.{next_low, next_high}
use Rattle.radiosity_solve.specs.Composition.{HoldsEverySolution}

-- the claim is shown at patch i: its lower bound is at most the light that the lower bounds give there by the lower ends, each product
-- rounded down to a tick, and its upper bound at least the light of the upper bounds by the upper ends, each product rounded up
pub record IsShownAt (s : System) (lower upper : List Tick) (i : ℕ) : Type 0 where
  pub below : tick_at lower i ≤ next_low s lower i
  pub above : next_high s upper i ≤ tick_at upper i

-- it is shown at every patch
pub record IsShown (s : System) (lower upper : List Tick) : Type 0 where
  pub at : (i : ℕ) → i < length s.rows → IsShownAt s lower upper i

-- patch i is the first at which it isn't
pub record IsFirstNotShown (s : System) (lower upper : List Tick) (i : ℕ) : Type 0 where
  pub inside : i < length s.rows
  pub not_shown : ¬ IsShownAt s lower upper i
  pub earlier : (k : ℕ) → k < i → IsShownAt s lower upper k

-- a shown claim holds every solution of every system in the intervals, and no lower bound of it is above its upper bound
abbrev pub ShownClaimBounds : Type 0
ShownClaimBounds = (s : System) (lower upper : List Tick) → IsSystem s → NoneHeavy s.rows → IsShown s lower upper → HoldsEverySolution s lower upper
