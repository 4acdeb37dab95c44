-- Intervals and searches, computed.
use Rattle.std.specs.Prelude.{ℕ, ◌≡◌, ◌*◌, ◌+◌, refl, false, pos, nat_le}
use Rattle.std.proofs.Common.{inl, lit≤}
use Rattle.fx_base.specs.Fraction.{◌≈ᶠ◌, ◌+ᶠ◌, ◌-ᶠ◌, at_most, ratio, whole, sum_to}
use Rattle.fx_base.specs.Interval.{Interval, Contains, LiesIn, Meets, MeetsOnCircle, outward, sum_of}
use Rattle.fx_base.specs.Search.{greatest, least}
use Rattle.fx_base.specs.Units.{no_weight, of_span, of_weight, ticks}

abbrev between : ℕ → ℕ → Interval
between low high = record { lo = whole low; hi = whole high }

-- 1 .. 3 and 3 .. 5 have 3 in common
touching : Meets (between 1 3) (between 3 5)
unfolding whole
touching = record { above = record { cross = lit≤ tt }; below = record { cross = lit≤ tt } }

-- 1 .. 2 and 3 .. 5 have nothing in common: what `Meets` asks of the lower end of the second fails
apart : at_most (between 3 5).lo (between 1 2).hi ≡ false
unfolding whole
apart = refl

-- 2 .. 3 lies in 2 .. 4
inside : LiesIn (between 2 3) (between 2 4)
unfolding whole
inside = record { lower = record { cross = lit≤ tt }; upper = record { cross = lit≤ tt } }

-- 2 .. 4 moved outward by 1/2 is 3/2 .. 9/2
moved_down : (outward (ratio 1 2) (between 2 4)).lo ≈ᶠ ratio 3 2
unfolding ratio whole ◌-ᶠ◌
moved_down = record { cross = refl }

moved_up : (outward (ratio 1 2) (between 2 4)).hi ≈ᶠ ratio 9 2
unfolding ratio whole ◌+ᶠ◌
moved_up = record { cross = refl }

-- over the seam: 358 .. 362 and 0 .. 1 meet after a turn
over_the_seam : MeetsOnCircle (between 0 1) (between 358 362)
unfolding whole ◌+ᶠ◌
over_the_seam = (1, inl (record { above = record { cross = lit≤ tt }; below = record { cross = lit≤ tt } }))

-- 0 .. 1, 1 .. 2 and 2 .. 3 have the sum 3 .. 6
sum_of_lower : (sum_of 3 (λ k. between k (k + 1))).lo ≈ᶠ whole 3
unfolding whole ◌+ᶠ◌ sum_to
sum_of_lower = record { cross = refl }

sum_of_upper : (sum_of 3 (λ k. between k (k + 1))).hi ≈ᶠ whole 6
unfolding whole ◌+ᶠ◌ sum_to
sum_of_upper = record { cross = refl }

-- Python's fractions: 22,906,492,245 / 2^36 <= 1/3 <= 22,906,492,246 / 2^36
a_third : Contains (of_span (record { lo = pos 22906492245; hi = pos 22906492246 })) (ratio 1 3)
unfolding ratio ticks
a_third = (record { cross = lit≤ tt }, record { cross = lit≤ tt })

-- of the numbers up to 10, 7 is the greatest whose square is at most 50; from 3 on, 8 is the least whose square is at least 50
greatest_square : greatest (λ k. nat_le (k * k) 50) 10 ≡ 7
unfolding greatest
greatest_square = refl

least_square : least (λ k. nat_le 50 (k * k)) 10 3 ≡ 8
unfolding least
least_square = refl

-- the weight of a third of the light
weight_of_a_third : Contains (of_weight (record { lo = 22906492245; hi = 22906492246 })) (ratio 1 3)
unfolding ratio ticks
weight_of_a_third = (record { cross = lit≤ tt }, record { cross = lit≤ tt })

nothing_seen : of_weight no_weight ≡ record { lo = ticks 0; hi = ticks 0 }
nothing_seen = refl
