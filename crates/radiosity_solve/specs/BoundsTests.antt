-- The words of bounds on one patch that sends itself a quarter to a half of its light and has 0 to 1 lux, and a turn of two patches.
use Rattle.std.specs.Prelude.{◌≡◌, ◌+◌, ◌*◌, ◌^◌, ◌≤◌, List, [], ◌∷◌, pos, negsuc, refl}
use Rattle.std.proofs.Common.{lit<, lit≤, sym, subst}
use Rattle.std.proofs.Math.Arith.{lt-one}
use Rattle.fx_base.specs.declared.Tick.{Tick}
use Rattle.fx_base.specs.Fraction.{◌≤ᶠ◌, ◌<ᶠ◌, ◌≈ᶠ◌, ◌+ᶠ◌, ◌*ᶠ◌, whole, ratio, sum_to}
use Rattle.fx_base.specs.Units.{ticks}
use Rattle.interval_system.specs.Whole.{IsSolution, reduced, reduced_light, denominator, numerator}
use Rattle.interval_system.specs.Equations.{product_to, common_denominator, over, solution}
use Rattle.interval_system.specs.System.{System, low_weight, high_weight, low_direct, high_direct}
use Rattle.radiosity_solve.specs.Shown.{down_to, up_to}
use Rattle.radiosity_solve.specs.Bounds.{tick_at, IsEnd, IsWithin, lower_solution, upper_solution, ten_thousandth}
use Rattle.radiosity_solve.specs.Laws.{signed_numerator}
use Rattle.radiosity_solve.specs.Turn.{next_low, next_high, IsChangedBy}

unfoldable computed : Unit {0}
unfolding ◌+ᶠ◌ ◌*ᶠ◌ whole ratio sum_to ticks reduced reduced_light denominator numerator product_to common_denominator over solution down_to up_to next_low next_high
computed = tt

abbrev sample : System
sample = record {
  rows = (record { lo = 17179869184; hi = 34359738368 } ∷ []) ∷ [];
  direct = record { lo = pos 0; hi = pos 68719476736 } ∷ [];
}

-- h = 0 + h / 4 is 0, and h = 1 + h / 2 is 2
nothing_of_the_lower_ends : lower_solution sample 0 ≈ᶠ whole 0
unfolding computed
nothing_of_the_lower_ends = record { cross = refl }

two_of_the_upper_ends : upper_solution sample 0 ≈ᶠ whole 2
unfolding computed
two_of_the_upper_ends = record { cross = refl }

-- a third of its light and a third of a lux lie in the intervals
a_third_is_within : IsWithin sample 3 (λ i j. 1) (λ i. 1)
a_third_is_within = record {
  positive = lit< tt;
  low = λ i j l m. subst (λ i. low_weight sample i j * 3 ≤ 1 * 2 ^ 36) (sym (lt-one l)) (subst (λ j. low_weight sample 0 j * 3 ≤ 1 * 2 ^ 36) (sym (lt-one m)) (lit≤ tt));
  high = λ i j l m. subst (λ i. 1 * 2 ^ 36 ≤ high_weight sample i j * 3) (sym (lt-one l)) (subst (λ j. 1 * 2 ^ 36 ≤ high_weight sample 0 j * 3) (sym (lt-one m)) (lit≤ tt));
  low_light = λ i l. subst (λ i. low_direct sample i * 3 ≤ 1 * 2 ^ 36) (sym (lt-one l)) (lit≤ tt);
  high_light = λ i l. subst (λ i. 1 * 2 ^ 36 ≤ high_direct sample i * 3) (sym (lt-one l)) (lit≤ tt);
}

-- h = 1/3 + h / 3 is a half
a_half_solves_it : IsSolution 1 3 (λ i j. 1) (λ i. pos 1) 2 (λ i. pos 1)
a_half_solves_it = record { positive = lit< tt; row = λ i l. refl }

-- h = -1 + h / 2 is -2
less_than_nothing : signed_numerator 1 2 (λ i j. 1) (λ i. negsuc 1) 0 ≡ negsuc 1
unfolding computed
less_than_nothing = refl

-- 1/10,000 lux lies between 6,871,947 ticks and one more
whole_ticks_in_it : ticks 6871947 ≤ᶠ ten_thousandth
unfolding computed
whole_ticks_in_it = record { cross = lit≤ tt }

no_tick_more : ten_thousandth <ᶠ ticks 6871948
unfolding computed
no_tick_more = record { cross = lit< tt }

-- 2^90 ticks
the_greatest_end : IsEnd (record { 0 = pos 1237940039285380274899124224 })
the_greatest_end = record { low = record { le = tt }; high = record { le = tt } }

-- ---- a turn of two patches. The ends are from Python's fractions:
--
--     low, high = [[30000000000, 10000000000], [20000000007, 0]], [[30000000001, 10000000005], [20000000009, 1]]
--     x = [1000000000001, 12345]
--     for i in (0, 1): print([5, 7][i] + sum(floor(F(low[i][j] * x[j], 2**36)) for j in (0, 1)),
--                            [6, 8][i] + sum(ceil(F(high[i][j] * x[j], 2**36)) for j in (0, 1)))
abbrev pair : System
pair = record {
  rows =
      (record { lo = 30000000000; hi = 30000000001 } ∷ record { lo = 10000000000; hi = 10000000005 } ∷ [])
      ∷ (record { lo = 20000000007; hi = 20000000009 } ∷ record { lo = 0; hi = 1 } ∷ []) ∷ [];
  direct = record { lo = pos 5; hi = pos 6 } ∷ record { lo = pos 7; hi = pos 8 } ∷ [];
}

abbrev before : List Tick
before = record { 0 = pos 1000000000001 } ∷ record { 0 = pos 12345 } ∷ []

first_from_below : next_low pair before 0 ≡ 436557458652
unfolding computed
first_from_below = refl

first_from_above : next_high pair before 0 ≡ 436557458669
unfolding computed
first_from_above = refl

second_from_below : next_low pair before 1 ≡ 291038304676
unfolding computed
second_from_below = refl

second_from_above : next_high pair before 1 ≡ 291038304708
unfolding computed
second_from_above = refl

-- one value that rises by 5
a_change_of_five : IsChangedBy 5 (record { 0 = pos 3 } ∷ []) (record { 0 = pos 8 } ∷ [])
a_change_of_five = record {
  down = λ i l. subst (λ i. tick_at (record { 0 = pos 3 } ∷ []) i ≤ tick_at (record { 0 = pos 8 } ∷ []) i + 5) (sym (lt-one l)) (lit≤ tt);
  up = λ i l. subst (λ i. tick_at (record { 0 = pos 8 } ∷ []) i ≤ tick_at (record { 0 = pos 3 } ∷ []) i + 5) (sym (lt-one l)) (lit≤ tt);
}
