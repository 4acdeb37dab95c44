-- Bounds and margins of two patches, computed. By the lower ends h0 = 1 + h1 / 2 and h1 = h0 / 4, whose solution is 8/7 and 2/7 lux; by
-- the upper ends h0 = 2 + h1 * 3 / 4 and h1 = h0 / 2, whose solution is 16/5 and 8/5 lux. 2^36 ticks are a lux.
use Rattle.std.specs.Prelude.{ℕ, ◌<◌, ◌≡◌, ◌==◌, if◌then◌else◌, List, [], ◌∷◌, pos, refl}
use Rattle.std.proofs.Common.{inl, inr, lit<, lit≤}
use Rattle.fx_base.specs.Fraction.{◌≈ᶠ◌, ◌+ᶠ◌, ◌-ᶠ◌, ◌*ᶠ◌, ratio, whole, sum_to}
use Rattle.fx_base.specs.Interval.{Meets, LiesIn, exact, outward}
use Rattle.fx_base.specs.Units.{ticks}
use Rattle.fx_base.specs.declared.Tick.{Tick}
use Rattle.fx_base.proofs.Order.{le_lt_absurd_f}
use Rattle.interval_system.specs.Equations.{value_by}
use Rattle.interval_system.specs.Radiosity.{Enclosures, Light, IsLightOf}
use Rattle.radiosity_solve.specs.Bounds.{ten_thousandth}
use Rattle.grid_report.specs.PatchBounds.{light_at, bounds_at, low_sum, high_sum, HasLittleMargin}
use borrow.Author.Count.{below_none, below_more}

unfoldable computed : Unit {0}
unfolding ratio whole ticks ◌+ᶠ◌ ◌-ᶠ◌ ◌*ᶠ◌ sum_to value_by
computed = tt

abbrev of_two : {X : Type 0} → X → X → ℕ → X
of_two first second i = if i == 0 then first else second

patches : Enclosures
unfolding computed
patches = record {
  size = 2;
  coefficient = of_two (of_two (exact (whole 0)) (record { lo = ratio 1 2; hi = ratio 3 4 })) (of_two (record { lo = ratio 1 4; hi = ratio 1 2 }) (exact (whole 0)));
  direct = of_two (record { lo = whole 1; hi = whole 2 }) (exact (whole 0));
}

light : Light
unfolding computed
light = record { lower = of_two (ratio 8 7) (ratio 2 7); upper = of_two (ratio 16 5) (ratio 8 5) }

solves_the_lower_ends : (i : ℕ) → i < 2 → light.lower i ≈ᶠ value_by 2 (patches.direct i).lo (λ j. (patches.coefficient i j).lo) light.lower
unfolding computed patches light
solves_the_lower_ends =
    let Holds : ℕ → Type 0 = λ i. light.lower i ≈ᶠ value_by 2 (patches.direct i).lo (λ j. (patches.coefficient i j).lo) light.lower in
    below_more Holds 1 (below_more Holds 0 (below_none Holds) (record { cross = refl })) (record { cross = refl })

solves_the_upper_ends : (i : ℕ) → i < 2 → light.upper i ≈ᶠ value_by 2 (patches.direct i).hi (λ j. (patches.coefficient i j).hi) light.upper
unfolding computed patches light
solves_the_upper_ends =
    let Holds : ℕ → Type 0 = λ i. light.upper i ≈ᶠ value_by 2 (patches.direct i).hi (λ j. (patches.coefficient i j).hi) light.upper in
    below_more Holds 1 (below_more Holds 0 (below_none Holds) (record { cross = refl })) (record { cross = refl })

is_light : IsLightOf patches light
unfolding computed patches
is_light = record { lower = record { row = solves_the_lower_ends }; upper = record { row = solves_the_upper_ends } }

abbrev bounds : ℕ → ℕ → List Tick
bounds first second = record { 0 = pos first } ∷ record { 0 = pos second } ∷ []

-- ---- bounds against the light

-- 1 and 1/4 lux, 4 and 2 lux
abbrev below : List Tick
below = bounds 68719476736 17179869184

abbrev above : List Tick
above = bounds 274877906944 137438953472

second_bounds : bounds_at below above 1 ≡ record { lo = ticks 17179869184; hi = ticks 137438953472 }
second_bounds = refl

second_light : light_at light 1 ≡ record { lo = ratio 2 7; hi = ratio 8 5 }
unfolding computed light
second_light = refl

they_meet : Meets (bounds_at below above 0) (light_at light 0)
unfolding computed light
they_meet = record { above = record { cross = lit≤ tt }; below = record { cross = lit≤ tt } }

-- 4 lux as the lower bound is past the 16/5 lux of the upper ends
too_high : ¬ Meets (bounds_at above above 0) (light_at light 0)
unfolding computed light
too_high = λ meets. le_lt_absurd_f meets.above (record { cross = lit< tt })

-- 8/7 lux less 1/10,000 lie between 78529672893 and 78529672894 ticks, by Python's fractions
near_enough : LiesIn (bounds_at (bounds 78529672894 0) (bounds 78529672894 0) 0) (outward ten_thousandth (light_at light 0))
unfolding computed light
near_enough = record { lower = record { cross = lit≤ tt }; upper = record { cross = lit≤ tt } }

too_far : ¬ LiesIn (bounds_at (bounds 78529672893 0) (bounds 78529672894 0) 0) (outward ten_thousandth (light_at light 0))
unfolding computed light
too_far = λ lies. le_lt_absurd_f lies.lower (record { cross = lit< tt })

-- ---- margins

-- 1 + 1/4 / 2 is 9/8, and 2 + 2 * 3/4 is 7/2
sent_by_the_lower_ends : low_sum patches below 0 ≈ᶠ ratio 9 8
unfolding computed patches
sent_by_the_lower_ends = record { cross = refl }

sent_by_the_upper_ends : high_sum patches above 0 ≈ᶠ ratio 7 2
unfolding computed patches
sent_by_the_upper_ends = record { cross = refl }

-- at the second patch they are 1/4 and 2 lux. Two ticks of margin, one for each patch, are enough
enough : ¬ HasLittleMargin patches (bounds 68719476736 17179869182) (bounds 274877906944 137438953474) 1
unfolding computed patches
enough = λ little. elim little [
  | inl lower ↦ le_lt_absurd_f (record { cross = lit≤ tt }) lower
  | inr upper ↦ le_lt_absurd_f (record { cross = lit≤ tt }) upper
]

-- one tick isn't, on either side
lower_too_close : HasLittleMargin patches (bounds 68719476736 17179869183) (bounds 274877906944 137438953474) 1
unfolding computed patches
lower_too_close = inl (record { cross = lit< tt })

upper_too_close : HasLittleMargin patches (bounds 68719476736 17179869182) (bounds 274877906944 137438953473) 1
unfolding computed patches
upper_too_close = inr (record { cross = lit< tt })
