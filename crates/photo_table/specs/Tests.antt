-- Values and hulls of small tables, computed.
use Rattle.std.specs.Prelude.{ℕ, ◌≡◌, Bool, true, ◌&&◌, refl, [], ◌∷◌, codes}
use Rattle.std.specs.Fmt.{digits}
use Rattle.fx_base.specs.Fraction.{Fraction, ◌+ᶠ◌, ◌*ᶠ◌, ratio, whole, at_most, lesser, greater}
use Rattle.fx_base.specs.Interval.{Interval, exact}
use Rattle.fx_base.specs.Units.{millionths, ticks}
use Rattle.fx_base.specs.Search.{greatest}
use Rattle.photo_table.specs.Angles.{turn_later}
use Rattle.photo_table.specs.Axis.{behind, ahead, between, piece, along, extreme}
use Rattle.photo_table.specs.Table.{Table, plane, value, end_at, bilinear}
use Rattle.photo_table.specs.Hull.{gamma_extreme, plane_extreme, hull}
use Rattle.photo_table.specs.Kept.{summary_line}
use Rattle.photo_table.specs.Exact.{rounded}

unfoldable pub computed : Unit {0}
unfolding ◌+ᶠ◌ ◌*ᶠ◌ ratio whole lesser greater millionths greatest turn_later behind ahead between piece along extreme plane value end_at bilinear gamma_extreme plane_extreme hull
computed = tt

abbrev candela : ℕ → Interval
unfolding computed
candela n = exact (whole n)

abbrev is : Fraction → Fraction → Bool
is a b = at_most a b && at_most b a

abbrev is_interval : Interval → Fraction → Fraction → Bool
is_interval i a b = is i.lo a && is i.hi b

-- 100, 200, 300 and 400 candela in the half-planes 0, 90, 180 and 270, the same at gamma 0 and 180
abbrev four_planes : Table
unfolding computed
four_planes = record {
  planes = 0 ∷ 90000000 ∷ 180000000 ∷ 270000000 ∷ [];
  gammas = 0 ∷ 180000000 ∷ [];
  values = candela 100 ∷ candela 100 ∷ candela 200 ∷ candela 200 ∷ candela 300 ∷ candela 300 ∷ candela 400 ∷ candela 400 ∷ [];
}

-- 300 candela straight down and 0 at gamma 90, all round
abbrev one_plane : Table
unfolding computed
one_plane = record { planes = 0 ∷ []; gammas = 0 ∷ 90000000 ∷ []; values = candela 300 ∷ candela 0 ∷ [] }

-- halfway between 400 at 270 and 100 at 360
halfway_to_the_first_plane : is_interval (bilinear four_planes (whole 315) (whole 90)) (whole 250) (whole 250) ≡ true
unfolding computed
halfway_to_the_first_plane = refl

-- 100 at 360, 300 / 90 candela a degree more before it and 100 / 90 after it
hull_over_the_end_of_a_turn :
    is_interval (hull four_planes (record { lo = millionths 359900000; hi = millionths 360100000 }) (exact (whole 90))) (whole 100) (ratio 301 3) ≡ true
unfolding computed
hull_over_the_end_of_a_turn = refl

-- 0 beyond the last gamma, and 300 / 90 candela a degree before it
hull_over_the_last_gamma :
    is_interval (hull one_plane (exact (whole 17)) (record { lo = millionths 89900000; hi = millionths 90100000 })) (whole 0) (ratio 1 3) ≡ true
unfolding computed
hull_over_the_last_gamma = refl

-- the last gamma still has its value
at_the_last_gamma : is_interval (bilinear four_planes (whole 135) (whole 180)) (whole 250) (whole 250) ≡ true
unfolding computed
at_the_last_gamma = refl

-- 400 at the plane within the bracket, and less at both of its ends
peak_in_the_bracket :
    is_interval (hull four_planes (record { lo = millionths 269900000; hi = millionths 270100000 }) (exact (whole 90))) (ratio 1199 3) (whole 400) ≡ true
unfolding computed
peak_in_the_bracket = refl

-- ---- a table whose planes and gammas lie unevenly and whose intensities have two ends. What follows was calculated by a program in
-- Python, with its own fractions, that interpolates between the two planes and the two gammas next to a direction

abbrev uneven : Table
unfolding computed
uneven = record {
  planes = 10000000 ∷ 200000000 ∷ [];
  gammas = 30000000 ∷ 90000000 ∷ 120000000 ∷ [];
  values =
      record { lo = whole 7; hi = whole 11 } ∷ record { lo = whole 13; hi = whole 17 } ∷ record { lo = whole 19; hi = whole 20 } ∷
      record { lo = whole 23; hi = whole 29 } ∷ record { lo = whole 31; hi = whole 37 } ∷ record { lo = whole 41; hi = whole 43 } ∷ [];
}

-- after the last plane
at_300_and_50 : is_interval (bilinear uneven (whole 300) (whole 50)) (ratio 809 51) (ratio 1055 51) ≡ true
unfolding computed
at_300_and_50 = refl

-- before the first one
at_5_and_100 : is_interval (bilinear uneven (whole 5) (whole 100)) (ratio 794 51) (ratio 633 34) ≡ true
unfolding computed
at_5_and_100 = refl

at_the_first_gamma : is_interval (bilinear uneven (whole 10) (whole 30)) (whole 7) (whole 11) ≡ true
unfolding computed
at_the_first_gamma = refl

before_the_first_gamma : is_interval (bilinear uneven (whole 100) (whole 29)) (whole 0) (whole 0) ≡ true
unfolding computed
before_the_first_gamma = refl

-- brackets with a plane and a gamma in them
hull_round_a_plane_and_a_gamma :
    is_interval (hull uneven (record { lo = whole 9; hi = whole 11 }) (record { lo = whole 89; hi = whole 91 })) (ratio 129 10) (ratio 29271 1700) ≡ true
unfolding computed
hull_round_a_plane_and_a_gamma = refl

-- the same a turn later
hull_a_turn_later :
    is_interval (hull uneven (record { lo = whole 369; hi = whole 371 }) (record { lo = whole 89; hi = whole 91 })) (ratio 129 10) (ratio 29271 1700) ≡ true
unfolding computed
hull_a_turn_later = refl

-- over the first gamma, before which there is no light
hull_over_the_first_gamma :
    is_interval (hull uneven (record { lo = whole 199; hi = whole 201 }) (record { lo = whole 29; hi = whole 31 })) (whole 0) (ratio 437 15) ≡ true
unfolding computed
hull_over_the_first_gamma = refl

-- ---- the summary of 100.07 candela, whose neighbouring ticks are 6876758036971 and 6876758036972

rounded_outward_twice : summary_line four_planes 6876758036971 6876758036972 ≡ codes "planes 4 gammas 2 greatest 100.06 100.08\n"
unfolding digits four_planes
rounded_outward_twice = refl

-- ---- 100.07 candela to ticks: 10007 * 2^36 / 100 is 6876758036971.52. A whole number of ticks stays what it is

rounded_to_both_sides : rounded (exact (ratio 10007 100)) ≡ record { lo = ticks 6876758036971; hi = ticks 6876758036972 }
unfolding computed ticks
rounded_to_both_sides = refl

whole_ticks_stay : rounded (exact (ratio 3 4)) ≡ record { lo = ticks 51539607552; hi = ticks 51539607552 }
unfolding computed ticks
whole_ticks_stay = refl
