-- Intervals of fractions: a lower and an upper end. The type doesn't force their order; `InOrder` says it where it is wanted.
use Rattle.std.specs.Prelude.{ℕ, ◌*◌, ◌⊎◌}
use Rattle.fx_base.specs.Fraction.{Fraction, ◌≤ᶠ◌, ◌+ᶠ◌, ◌-ᶠ◌, whole, sum_to}

pub record Interval : Type 0 where
  pub lo : Fraction
  pub hi : Fraction

-- the lower end is at most the upper one
abbrev pub InOrder : Interval → Type 0
InOrder i = i.lo ≤ᶠ i.hi

abbrev pub exact : Fraction → Interval
exact a = record { lo = a; hi = a }

-- they have a number in common
pub record Meets (a b : Interval) : Type 0 where
  pub above : a.lo ≤ᶠ b.hi
  pub below : b.lo ≤ᶠ a.hi

-- the first lies in the second
pub record LiesIn (a b : Interval) : Type 0 where
  pub lower : b.lo ≤ᶠ a.lo
  pub upper : a.hi ≤ᶠ b.hi

abbrev pub Contains : Interval → Fraction → Type 0
Contains i x = (i.lo ≤ᶠ x) × (x ≤ᶠ i.hi)

-- moved outward by e, the lower end kept at 0
abbrev pub outward : Fraction → Interval → Interval
outward e i = record { lo = i.lo -ᶠ e; hi = i.hi +ᶠ e }

-- moved up by whole turns of 360
abbrev pub turned : ℕ → Interval → Interval
turned turns i = record { lo = i.lo +ᶠ whole (360 * turns); hi = i.hi +ᶠ whole (360 * turns) }

-- angles that have a direction in common: one of them, moved by whole turns, meets the other
abbrev pub MeetsOnCircle : Interval → Interval → Type 0
MeetsOnCircle a b = (turns : ℕ) × (Meets (turned turns a) b ⊎ Meets a (turned turns b))

-- the sum of i 0 to i (count - 1)
abbrev pub sum_of : ℕ → (ℕ → Interval) → Interval
sum_of count i = record { lo = sum_to count (λ k. (i k).lo); hi = sum_to count (λ k. (i k).hi) }
