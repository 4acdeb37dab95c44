-- The least and the greatest of some intervals, computed.
use Rattle.std.specs.Prelude.{ℕ, zero, suc, ◌≡◌, refl}
use Rattle.fx_base.specs.Fraction.{greater, lesser, whole}
use Rattle.fx_base.specs.Interval.{Interval}
use Rattle.escape_route.specs.Extremes.{greatest, greatest_of, least, least_of}

-- 5 to 9, 3 to 10, and 4 to 8
abbrev lights : ℕ → Interval
lights zero = record { lo = whole 5; hi = whole 9 }
lights (suc zero) = record { lo = whole 3; hi = whole 10 }
lights (suc (suc n)) = record { lo = whole 4; hi = whole 8 }

of_all : least 2 lights ≡ record { lo = whole 3; hi = whole 8 }
unfolding least_of lesser whole
of_all = refl

of_all_greatest : greatest 2 lights ≡ record { lo = whole 5; hi = whole 10 }
unfolding greatest_of greater whole
of_all_greatest = refl

of_the_first : least 0 lights ≡ record { lo = whole 5; hi = whole 9 }
unfolding least_of
of_the_first = refl
