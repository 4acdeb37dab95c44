-- Equations, and values at points, computed. The values are those of the equations solved by hand, where nothing else is said.
use Rattle.std.specs.Prelude.{ℕ, ◌≡◌, ◌*◌, ◌/◌, ◌==◌, ◌&&◌, true, false, refl, if◌then◌else◌}
use Rattle.std.proofs.Common.{lit<}
use Rattle.fx_base.specs.Fraction.{Fraction, ratio, whole, at_most, ◌+ᶠ◌, ◌-ᶠ◌, ◌*ᶠ◌, ◌/ᶠ◌, sum_to}
use Rattle.fx_base.specs.Interval.{exact}
use Rattle.interval_system.specs.Whole.{reduced, reduced_light, denominator, numerator}
use Rattle.interval_system.specs.Equations.{SolvesEquations, RowsBelowOne, IsOver, value_by, product_to, common_denominator, over, solution}
use Rattle.interval_system.specs.Radiosity.{Radiosity, Light, IsLightOf, AreRowsBelowOne, value, values}
use Rattle.interval_system.specs.Values.{open_count, open_sum, mean, average}

unfoldable all_of_it : Unit {0}
unfolding ratio whole ◌+ᶠ◌ ◌-ᶠ◌ ◌*ᶠ◌ ◌/ᶠ◌ sum_to reduced reduced_light denominator numerator value_by product_to common_denominator over solution value values open_count open_sum mean average
all_of_it = tt

-- h0 = 1 + h1 / 2 and h1 = h0 / 4: h0 = 8/7, h1 = 2/7
two : ℕ → Fraction
unfolding all_of_it
two = solution 2 (λ i j. if i == j then whole 0 else (if i == 0 then ratio 1 2 else ratio 1 4)) (λ i. if i == 0 then whole 1 else whole 0)

two_first : (two 0).num * 7 ≡ 8 * (two 0).den
unfolding all_of_it two
two_first = refl

two_second : (two 1).num * 7 ≡ 2 * (two 1).den
unfolding all_of_it two
two_second = refl

-- a cube of 2 m whose six patches reflect a half and have 200 lux each: 407.92 to 407.93. Opposite patches have the coefficient
-- 4 / (4 pi + 4) / 2, adjacent ones 2 / (2 pi + 4) / 2, here in millionths
cube : ℕ → Fraction
unfolding all_of_it
cube = solution 6
    (λ i j. if i == j then whole 0 else (if i / 2 == j / 2 then ratio 120727 1000000 else ratio 97246 1000000)) (λ i. whole 200)

cube_lit : (at_most (ratio 40792 100) (cube 0) && at_most (cube 0) (ratio 40793 100)) ≡ true
unfolding all_of_it cube
cube_lit = refl

-- one patch that sends itself a half and has a direct light of 1 to 2, so 2 to 4, moved by 1; and a point with a direct light of 3
-- that it lights by a half, beside a covered one: 3.5 to 5.5
scene : Radiosity
unfolding all_of_it
scene = record {
  patches = record { size = 1; coefficient = λ i j. exact (ratio 1 2); direct = λ i. record { lo = whole 1; hi = whole 2 } };
  points = 2;
  covered = λ g. if g == 0 then true else false;
  coefficient = λ g j. exact (ratio 1 2);
  direct = λ g. exact (whole 3);
  move = whole 1;
}

-- 1 + 2 / 2 is 2, and 2 + 4 / 2 is 4
light : Light
unfolding all_of_it
light = record { lower = λ i. whole 2; upper = λ i. whole 4 }

light_is : IsLightOf scene.patches light
unfolding all_of_it scene light
light_is = record { lower = record { row = λ i l. record { cross = refl } }; upper = record { row = λ i l. record { cross = refl } } }

rows_are_below_one : AreRowsBelowOne scene.patches
unfolding all_of_it scene
rows_are_below_one = record { lower = record { row = λ i l. record { cross = lit< tt } }; upper = record { row = λ i l. record { cross = lit< tt } } }

point_low : (value scene light 1).lo.num * 2 ≡ 7 * (value scene light 1).lo.den
unfolding all_of_it scene light
point_low = refl

point_high : (value scene light 1).hi.num * 2 ≡ 11 * (value scene light 1).hi.den
unfolding all_of_it scene light
point_high = refl

-- the average is over the point that isn't covered
average_high : (average (values scene light)).hi.num * 2 ≡ 11 * (average (values scene light)).hi.den
unfolding all_of_it scene light
average_high = refl

-- three patches that all send to all. The solution is by Cramer's rule in Python's fractions:
--
--     from fractions import Fraction as F
--     k = [[F(1, 10), F(1, 3), F(1, 4)], [F(1, 5), F(0), F(1, 2)], [F(2, 7), F(1, 6), F(1, 8)]]
--     d = [F(3), F(0), F(5, 2)]
--     def det(a):
--         if len(a) == 1: return a[0][0]
--         return sum((-1) ** j * a[0][j] * det([r[:j] + r[j + 1:] for r in a[1:]]) for j in range(len(a)))
--     m = [[(i == j) - k[i][j] for j in range(3)] for i in range(3)]
--     for c in range(3): print(det([[d[i] if j == c else m[i][j] for j in range(3)] for i in range(3)]) / det(m))
abbrev of_three : Fraction → Fraction → Fraction → ℕ → Fraction
of_three a b c i = if i == 0 then a else (if i == 1 then b else c)

abbrev three_rows : ℕ → ℕ → Fraction
unfolding all_of_it
three_rows i =
    if i == 0
    then of_three (ratio 1 10) (ratio 1 3) (ratio 1 4)
    else (if i == 1 then of_three (ratio 1 5) (whole 0) (ratio 1 2) else of_three (ratio 2 7) (ratio 1 6) (ratio 1 8))

three : ℕ → Fraction
unfolding all_of_it
three = solution 3 three_rows (of_three (whole 3) (whole 0) (ratio 5 2))

three_first : (three 0).num * 177 ≡ 1148 * (three 0).den
unfolding all_of_it three
three_first = refl

three_second : (three 1).num * 295 ≡ 1234 * (three 1).den
unfolding all_of_it three
three_second = refl

three_third : (three 2).num * 885 ≡ 5108 * (three 2).den
unfolding all_of_it three
three_third = refl

-- h = 1 + h / 2 as a relation: 2 solves it, its row sum is below one, and over 2 its numbers are 1 and 2
two_solves : SolvesEquations 1 (λ i j. ratio 1 2) (λ i. whole 1) (λ i. whole 2)
unfolding all_of_it
two_solves = record { row = λ i l. record { cross = refl } }

half_is_below_one : RowsBelowOne 1 (λ i j. ratio 1 2)
unfolding all_of_it
half_is_below_one = record { row = λ i l. record { cross = lit< tt } }

over_two : IsOver 1 2 (λ i j. 1) (λ i. 2) (λ i j. ratio 1 2) (λ i. whole 1)
unfolding all_of_it
over_two = record { positive = lit< tt; coefficient = λ i j l m. refl; light = λ i l. refl }
