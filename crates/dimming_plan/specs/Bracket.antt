-- What the two plans found say of the exact and of the loose averages of the groups.
use Rattle.std.specs.Prelude.{ℕ, ◌<◌, ◌≤◌, List, slice_index, Option, IfSome, IsSome, MatchOption}
use Rattle.fx_base.specs.Fraction.{Fraction, ◌≤ᶠ◌, ◌+ᶠ◌, ◌-ᶠ◌, ◌*ᶠ◌, ratio, sum_to}
use Rattle.fx_base.specs.Interval.{Interval}
use Rattle.fx_base.specs.Units.{ticks}
use Rattle.dimming_plan.specs.declared.power.Found.{Found}
use Rattle.dimming_plan.specs.Steps.{IsLeastPlan, IsPlan, NoPlan, weighed}

-- the light of a plan: the sum of each group's average at its tenths
unfoldable pub plan_light : List ℕ → (ℕ → Fraction) → Fraction
plan_light steps average = sum_to 6 (λ g. ratio (slice_index steps g) 10 *ᶠ average g)

-- so many thousandths of a lux
abbrev pub limit : ℕ → Fraction
limit least = ratio least 1000

-- the averages in ticks meet the exact ones and lie within 1/10,000 lux of the loose ones
pub record AreAverages (low high : List ℕ) (exact loose : ℕ → Interval) : Type 0 where
  pub above : (g : ℕ) → g < 6 → ticks (slice_index low g) ≤ᶠ (exact g).hi
  pub below : (g : ℕ) → g < 6 → (exact g).lo ≤ᶠ ticks (slice_index high g)
  pub near_low : (g : ℕ) → g < 6 → (loose g).lo ≤ᶠ (ticks (slice_index low g) +ᶠ ratio 1 10000)
  pub near_high : (g : ℕ) → g < 6 → ticks (slice_index high g) ≤ᶠ ((loose g).hi +ᶠ ratio 1 10000)

-- there is a plan, and it takes no more than s
abbrev pub HasAtMost : Option Found → List ℕ → List ℕ → Type 0
HasAtMost found watts s = IsSome found × IfSome found (λ f. f.tenths ≤ weighed s watts)

-- `met` may reach the limit, and takes no more than any plan that surely does with a thousandth of a lux to spare; `possible` takes no more
-- than any plan that surely reaches it, and comes within a thousandth of a lux of reaching it by the loose upper ends
pub record IsBracket (watts : List ℕ) (least : ℕ) (met possible : Option Found) (exact loose : ℕ → Interval) : Type 0 where
  pub met_reaches : IfSome met (λ f. limit least ≤ᶠ plan_light f.steps (λ g. (exact g).hi))
  pub possible_is_least : (s : List ℕ) → IsPlan s → limit least ≤ᶠ plan_light s (λ g. (exact g).lo) → HasAtMost possible watts s
  pub met_is_least : (s : List ℕ) → IsPlan s → limit least ≤ᶠ (plan_light s (λ g. (loose g).lo) -ᶠ ratio 1 1000) → HasAtMost met watts s
  pub possible_reaches : IfSome possible (λ f. limit least ≤ᶠ (plan_light f.steps (λ g. (loose g).hi) +ᶠ ratio 1 1000))

-- what is found by such averages is so of the exact and of the loose ones
abbrev pub PlansAreABracket : Type 0
PlansAreABracket = (low high watts : List ℕ) (least : ℕ) (met possible : Option Found) (exact loose : ℕ → Interval) → AreAverages low high exact loose
    → MatchOption met (NoPlan low least) (IsLeastPlan low watts least) → MatchOption possible (NoPlan high least) (IsLeastPlan high watts least)
    → IsBracket watts least met possible exact loose
