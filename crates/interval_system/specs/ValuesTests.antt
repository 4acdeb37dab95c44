-- Averages and uniformities, worked out by hand.
use Rattle.std.specs.Prelude.{ℕ, ◌==◌, false, refl, if◌then◌else◌}
use Rattle.fx_base.specs.Fraction.{◌≈ᶠ◌, ◌+ᶠ◌, ◌*ᶠ◌, ◌/ᶠ◌, ratio, whole, lesser, sum_to}
use Rattle.fx_base.specs.Interval.{Interval, exact}
use Rattle.interval_system.specs.Values.{Grid, open_count, open_sum, mean, least, average, uniformity}

unfoldable computed : Unit {0}
unfolding ◌+ᶠ◌ ◌*ᶠ◌ ◌/ᶠ◌ ratio whole lesser sum_to open_count open_sum mean least average uniformity
computed = tt

abbrev from_to : ℕ → ℕ → Interval
unfolding computed
from_to a b = record { lo = whole a; hi = whole b }

-- 2 to 3, a covered point of 0 to 1, and 5 to 6: 7/2 to 9/2 on average, 2 to 3 at least
abbrev one_covered : Grid
unfolding computed
one_covered = record {
  points = 3;
  covered = λ g. g == 1;
  value = λ g. if g == 0 then from_to 2 3 else (if g == 1 then from_to 0 1 else from_to 5 6);
}

average_low : (average one_covered).lo ≈ᶠ ratio 7 2
unfolding computed
average_low = record { cross = refl }

average_high : (average one_covered).hi ≈ᶠ ratio 9 2
unfolding computed
average_high = record { cross = refl }

-- 2 by 9/2, and 3 by 7/2
uniformity_low : (uniformity one_covered).lo ≈ᶠ ratio 4 9
unfolding computed
uniformity_low = record { cross = refl }

uniformity_high : (uniformity one_covered).hi ≈ᶠ ratio 6 7
unfolding computed
uniformity_high = record { cross = refl }

-- the first point covered, so that the least begins at the second
first_covered : Grid
unfolding computed
first_covered = record one_covered { covered = λ g. g == 0 }

least_from_the_second : (uniformity first_covered).hi ≈ᶠ ratio 2 5
unfolding computed first_covered
least_from_the_second = record { cross = refl }

-- 2 to 5 and exactly 3: the least upper end is 3, above the lower end of the average of 5/2
abbrev wide : Grid
unfolding computed
wide = record { points = 2; covered = λ g. false; value = λ g. if g == 0 then from_to 2 5 else exact (whole 3) }

cut_at_one : (uniformity wide).hi ≈ᶠ whole 1
unfolding computed
cut_at_one = record { cross = refl }

-- 0 to 1 and 0 to 3: an average from 0
abbrev dark : Grid
unfolding computed
dark = record { points = 2; covered = λ g. false; value = λ g. if g == 0 then from_to 0 1 else from_to 0 3 }

one_where_the_average_may_be_0 : (uniformity dark).hi ≈ᶠ whole 1
unfolding computed
one_where_the_average_may_be_0 = record { cross = refl }

none_of_it : (uniformity dark).lo ≈ᶠ whole 0
unfolding computed
none_of_it = record { cross = refl }
