-- The light of plans by averages in ticks, against the limit and against the exact and the loose averages.
use Rattle.std.proofs.Common.{ℕ, zero, suc, ◌+◌, ◌*◌, ◌^◌, ◌<◌, ◌≤◌, ◌≡◌, List, arith, refl, sym, zero-add, subst}
use Rattle.std.specs.Prelude.{slice_index, Option, Some, None, IfSome, MatchOption}
use Rattle.fx_base.specs.Fraction.{Fraction, ◌≤ᶠ◌, ◌+ᶠ◌, ◌-ᶠ◌, ◌*ᶠ◌, ratio, whole, sum_to}
use Rattle.fx_base.specs.Interval.{Interval}
use Rattle.fx_base.specs.Units.{ticks}
use Rattle.fx_base.proofs.Order.{le_refl_f, le_trans_f, add_le_f, mul_le_f, mul_add_f, sub_le_f}
use Rattle.fx_base.proofs.Ratios.{ratio_le, le_ratio_back, ratio_le_back}
use Rattle.fx_base.proofs.Sums.{no_ticks, sum_to_add, sum_to_le, sum_to_most, sum_to_times, ticks_join, ticks_split, times_sum_to}
use Rattle.dimming_plan.specs.declared.power.Found.{Found}
use Rattle.dimming_plan.specs.Bracket.{limit, plan_light, AreAverages, HasAtMost, IsBracket, PlansAreABracket}
use Rattle.dimming_plan.specs.Steps.{weighed, IsLeastPlan, IsPlan, NoPlan, Reaches}

-- ---- sums of ticks

unfoldable total : ℕ → (ℕ → ℕ) → ℕ
total zero p = 0
total (suc n) p = total n p + p n

sum_below : (n : ℕ) (p : ℕ → ℕ) → sum_to n (λ g. ticks (p g)) ≤ᶠ ticks (total n p)
unfolding sum_to total
sum_below zero p = no_ticks.1
sum_below (suc n) p = le_trans_f (add_le_f (sum_below n p) (le_refl_f (ticks (p n)))) (ticks_join (total n p) (p n))

sum_above : (n : ℕ) (p : ℕ → ℕ) → ticks (total n p) ≤ᶠ sum_to n (λ g. ticks (p g))
unfolding sum_to total
sum_above zero p = no_ticks.0
sum_above (suc n) p = le_trans_f (ticks_split (total n p) (p n)) (add_le_f (sum_above n p) (le_refl_f (ticks (p n))))

-- ---- the light of a plan in ticks is a tenth of its weighed sum

abbrev tenth : Fraction
tenth = ratio 1 10

term_below : (s x : ℕ) → (ratio s 10 *ᶠ ticks x) ≤ᶠ (tenth *ᶠ ticks (s * x))
unfolding ratio ticks ◌*ᶠ◌
term_below s x = record { cross = omega arith }

term_above : (s x : ℕ) → (tenth *ᶠ ticks (s * x)) ≤ᶠ (ratio s 10 *ᶠ ticks x)
unfolding ratio ticks ◌*ᶠ◌
term_above s x = record { cross = omega arith }

abbrev in_ticks : List ℕ → ℕ → Fraction
in_ticks x g = ticks (slice_index x g)

all_six : (s x : List ℕ) → total 6 (λ g. slice_index s g * slice_index x g) ≡ weighed s x
unfolding weighed total
all_six s x = rw (zero-add (slice_index s 0 * slice_index x 0)) refl

light_below : (s x : List ℕ) → plan_light s (in_ticks x) ≤ᶠ (tenth *ᶠ ticks (weighed s x))
unfolding plan_light
light_below s x =
    let p : ℕ → ℕ = λ g. slice_index s g * slice_index x g in
    let terms = sum_to_le 6 (λ g. ratio (slice_index s g) 10 *ᶠ in_ticks x g) (λ g. tenth *ᶠ ticks (p g)) (λ g few. term_below (slice_index s g) (slice_index x g)) in
    let joined = le_trans_f terms (sum_to_times 6 tenth (λ g. ticks (p g))) in
    let summed = le_trans_f joined (mul_le_f (le_refl_f tenth) (sum_below 6 p)) in
    rw (sym (all_six s x)) summed

light_above : (s x : List ℕ) → (tenth *ᶠ ticks (weighed s x)) ≤ᶠ plan_light s (in_ticks x)
unfolding plan_light
light_above s x =
    let p : ℕ → ℕ = λ g. slice_index s g * slice_index x g in
    let terms = sum_to_le 6 (λ g. tenth *ᶠ ticks (p g)) (λ g. ratio (slice_index s g) 10 *ᶠ in_ticks x g) (λ g few. term_above (slice_index s g) (slice_index x g)) in
    let split = le_trans_f (times_sum_to 6 tenth (λ g. ticks (p g))) terms in
    let summed = le_trans_f (mul_le_f (le_refl_f tenth) (sum_above 6 p)) split in
    rw (sym (all_six s x)) summed

-- ---- reaching the limit, in ticks and in fractions

limit_below : (least w : ℕ) → least * 2 ^ 36 ≤ w * 100 → limit least ≤ᶠ (tenth *ᶠ ticks w)
unfolding ratio ticks ◌*ᶠ◌
limit_below least w h = record { cross = omega (h, arith) }

limit_back : (least w : ℕ) → limit least ≤ᶠ (tenth *ᶠ ticks w) → least * 2 ^ 36 ≤ w * 100
unfolding ratio ticks ◌*ᶠ◌
limit_back least w h = omega (h.cross, arith)

reached : (s x : List ℕ) (least : ℕ) → Reaches x least s → limit least ≤ᶠ plan_light s (in_ticks x)
reached s x least h = le_trans_f (limit_below least (weighed s x) h.enough) (light_above s x)

reaches : (s x : List ℕ) (least : ℕ) → limit least ≤ᶠ plan_light s (in_ticks x) → Reaches x least s
reaches s x least h = record { enough = limit_back least (weighed s x) (le_trans_f h (light_below s x)) }

-- ---- the light of a plan by averages that differ

light_rises : (s : List ℕ) (a b : ℕ → Fraction) → ((g : ℕ) → g < 6 → a g ≤ᶠ b g) → plan_light s a ≤ᶠ plan_light s b
unfolding plan_light
light_rises s a b h = sum_to_le 6 (λ g. ratio (slice_index s g) 10 *ᶠ a g) (λ g. ratio (slice_index s g) 10 *ᶠ b g) (λ g few. mul_le_f (le_refl_f (ratio (slice_index s g) 10)) (h g few))

-- a step of at most all ten tenths of so little
part_small : (step : ℕ) → step ≤ 10 → (ratio step 10 *ᶠ ratio 1 10000) ≤ᶠ ratio 1 10000
unfolding ratio ◌*ᶠ◌
part_small step h = record { cross = omega (h, arith) }

six_small : (whole 6 *ᶠ ratio 1 10000) ≤ᶠ ratio 1 1000
unfolding ratio whole ◌*ᶠ◌
six_small = record { cross = omega arith }

light_near : (s : List ℕ) (a b : ℕ → Fraction) → IsPlan s → ((g : ℕ) → g < 6 → a g ≤ᶠ (b g +ᶠ ratio 1 10000)) → plan_light s a ≤ᶠ (plan_light s b +ᶠ ratio 1 1000)
unfolding plan_light
light_near s a b plan h =
    let step : ℕ → Fraction = λ g. ratio (slice_index s g) 10 in
    let near = sum_to_le 6 (λ g. step g *ᶠ a g) (λ g. (step g *ᶠ b g) +ᶠ (step g *ᶠ ratio 1 10000))
    (λ g few. le_trans_f (mul_le_f (le_refl_f (step g)) (h g few)) (mul_add_f (step g) (b g) (ratio 1 10000))) in
    let apart = le_trans_f near (sum_to_add 6 (λ g. step g *ᶠ b g) (λ g. step g *ᶠ ratio 1 10000)) in
    let small = sum_to_most 6 (ratio 1 10000) (λ g. step g *ᶠ ratio 1 10000) (λ g few. part_small (slice_index s g) (plan.each g)) in
    le_trans_f apart (add_le_f (le_refl_f (sum_to 6 (λ g. step g *ᶠ b g))) (le_trans_f small six_small))

-- ---- the bracket

found_at_most : (x watts : List ℕ) (least : ℕ) (found : Option Found) → MatchOption found (NoPlan x least) (IsLeastPlan x watts least)
    → (s : List ℕ) → IsPlan s → Reaches x least s → HasAtMost found watts s
found_at_most x watts least None h s plan r = absurd (h.none s plan r)
found_at_most x watts least (Some f) h s plan r = (refl, h.least_of_all s plan r)

met_reaches : (low high watts : List ℕ) (least : ℕ) (met : Option Found) (exact loose : ℕ → Interval) → AreAverages low high exact loose
    → MatchOption met (NoPlan low least) (IsLeastPlan low watts least)
    → IfSome met (λ f. limit least ≤ᶠ plan_light f.steps (λ g. (exact g).hi))
met_reaches low high watts least None exact loose a h = tt
met_reaches low high watts least (Some f) exact loose a h =
    le_trans_f (reached f.steps low least h.reaches) (light_rises f.steps (in_ticks low) (λ g. (exact g).hi) a.above)

possible_reaches : (low high watts : List ℕ) (least : ℕ) (possible : Option Found) (exact loose : ℕ → Interval) → AreAverages low high exact loose
    → MatchOption possible (NoPlan high least) (IsLeastPlan high watts least)
    → IfSome possible (λ f. limit least ≤ᶠ (plan_light f.steps (λ g. (loose g).hi) +ᶠ ratio 1 1000))
possible_reaches low high watts least None exact loose a h = tt
possible_reaches low high watts least (Some f) exact loose a h =
    le_trans_f (reached f.steps high least h.reaches) (light_near f.steps (in_ticks high) (λ g. (loose g).hi) h.is_plan a.near_high)

pub plans_are_a_bracket : PlansAreABracket
plans_are_a_bracket low high watts least met possible exact loose a is_met is_possible = record {
  met_reaches = met_reaches low high watts least met exact loose a is_met;
  possible_is_least = λ s plan enough. found_at_most high watts least possible is_possible s plan
      (reaches s high least (le_trans_f enough (light_rises s (λ g. (exact g).lo) (in_ticks high) a.below)));
  met_is_least = λ s plan enough. found_at_most low watts least met is_met s plan
      (reaches s low least (le_trans_f enough (sub_le_f (plan_light s (λ g. (loose g).lo)) (ratio 1 1000) (light_near s (λ g. (loose g).lo) (in_ticks low) plan a.near_low))));
  possible_reaches = possible_reaches low high watts least possible exact loose a is_possible;
}
