-- Fractions, computed. The values are those of Python's fractions.Fraction.
use Rattle.std.specs.Prelude.{◌≡◌, ◌+◌, ◌^◌, refl, true, false, negsuc}
use Rattle.fx_base.specs.Fraction.{◌≈ᶠ◌, ◌+ᶠ◌, ◌-ᶠ◌, ◌*ᶠ◌, ◌/ᶠ◌, at_most, ratio, whole, half_power, lesser, greater, sum_to}
use Rattle.fx_base.specs.Units.{natural, ticks, millionths}

-- 1/3 is below 2/5, and not the other way round
a_third_is_less : at_most (ratio 1 3) (ratio 2 5) ≡ true
unfolding ratio
a_third_is_less = refl

two_fifths_are_more : at_most (ratio 2 5) (ratio 1 3) ≡ false
unfolding ratio
two_fifths_are_more = refl

-- 2/6 and 1/3 are the same number
not_reduced : (ratio 2 6) ≈ᶠ (ratio 1 3)
unfolding ratio
not_reduced = record { cross = refl }

nothing_by_nothing : ratio 7 0 ≡ whole 0
unfolding ratio whole
nothing_by_nothing = refl

added : (ratio 1 3 +ᶠ ratio 1 6) ≈ᶠ ratio 1 2
unfolding ratio ◌+ᶠ◌
added = record { cross = refl }

taken_away : (ratio 5 6 -ᶠ ratio 1 2) ≈ᶠ ratio 1 3
unfolding ratio ◌-ᶠ◌
taken_away = record { cross = refl }

-- 1/2 less 5/6 stops at 0
stopped : (ratio 1 2 -ᶠ ratio 5 6) ≈ᶠ whole 0
unfolding ratio whole ◌-ᶠ◌
stopped = record { cross = refl }

multiplied : (ratio 3 4 *ᶠ ratio 2 9) ≈ᶠ ratio 1 6
unfolding ratio ◌*ᶠ◌
multiplied = record { cross = refl }

divided : (ratio 3 4 /ᶠ ratio 2 9) ≈ᶠ ratio 27 8
unfolding ratio ◌/ᶠ◌
divided = record { cross = refl }

divided_by_nothing : (ratio 3 4 /ᶠ whole 0) ≡ whole 0
unfolding ratio whole ◌/ᶠ◌
divided_by_nothing = refl

the_lesser : lesser (ratio 2 5) (ratio 1 3) ≡ ratio 1 3
unfolding ratio lesser
the_lesser = refl

the_greater : greater (ratio 2 5) (ratio 1 3) ≡ ratio 2 5
unfolding ratio greater
the_greater = refl

-- 1 + 1/2 + 1/3 + 1/4
summed : sum_to 4 (λ k. ratio 1 (k + 1)) ≈ᶠ ratio 25 12
unfolding ratio whole ◌+ᶠ◌ sum_to
summed = record { cross = refl }

an_eighth : half_power 3 ≈ᶠ ratio 125 1000
unfolding ratio half_power
an_eighth = record { cross = refl }

-- 2^36 + 2^34 ticks are 5/4, and 15,625 millionths are 1/64
one_and_a_quarter : ticks (2 ^ 36 + 2 ^ 34) ≈ᶠ ratio 5 4
unfolding ratio ticks
one_and_a_quarter = record { cross = refl }

a_64th : millionths 15625 ≈ᶠ ratio 1 64
unfolding ratio millionths
a_64th = record { cross = refl }

-- -1 has no natural number, and 0 stands in its place
below_nothing : natural (negsuc 0) ≡ 0
below_nothing = refl
