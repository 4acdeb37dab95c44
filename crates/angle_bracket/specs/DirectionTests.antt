-- Directions at depth 0, computed. The angle whose tangent is 1/2 is 26.57 degrees; at that depth it lies from 25 to 31, as a
-- program in Python finds that tries every whole number of degrees with its own fractions.
use Rattle.std.specs.Prelude.{◌≡◌, ◌&&◌, ℕ, Bool, pos, negsuc, true, refl}
use Rattle.fx_base.specs.Fraction.{whole, at_most}
use Rattle.fx_base.specs.Interval.{Interval, exact}
use Rattle.series_enclose.specs.SeriesTests.{all_series}
use Rattle.angle_bracket.specs.Direction.{less_angle, plus_angle, quarter_angle, in_quarter, angle_c, less_turn, brought, direction_c, direction_gamma}

unfoldable pub all_directions : Unit {0}
unfolding all_series less_angle plus_angle quarter_angle in_quarter angle_c less_turn brought direction_c direction_gamma
all_directions = tt

-- it runs from a whole number of degrees to another
is_from_to : ℕ → ℕ → Interval → Bool
unfolding whole
is_from_to lo hi i = at_most (whole lo) i.lo && at_most i.lo (whole lo) && at_most (whole hi) i.hi && at_most i.hi (whole hi)

-- the eight octants
east_north_east : is_from_to 25 31 (direction_c 0 (pos 2) (pos 1) 0) ≡ true
unfolding all_directions is_from_to
east_north_east = refl

north_north_east : is_from_to 59 65 (direction_c 0 (pos 1) (pos 2) 0) ≡ true
unfolding all_directions is_from_to
north_north_east = refl

north_north_west : is_from_to 115 121 (direction_c 0 (negsuc 0) (pos 2) 0) ≡ true
unfolding all_directions is_from_to
north_north_west = refl

west_north_west : is_from_to 149 155 (direction_c 0 (negsuc 1) (pos 1) 0) ≡ true
unfolding all_directions is_from_to
west_north_west = refl

west_south_west : is_from_to 205 211 (direction_c 0 (negsuc 1) (negsuc 0) 0) ≡ true
unfolding all_directions is_from_to
west_south_west = refl

south_south_west : is_from_to 239 245 (direction_c 0 (negsuc 0) (negsuc 1) 0) ≡ true
unfolding all_directions is_from_to
south_south_west = refl

south_south_east : is_from_to 295 301 (direction_c 0 (pos 1) (negsuc 1) 0) ≡ true
unfolding all_directions is_from_to
south_south_east = refl

east_south_east : is_from_to 329 335 (direction_c 0 (pos 2) (negsuc 0) 0) ≡ true
unfolding all_directions is_from_to
east_south_east = refl

-- less a turn: of 17 degrees, and of 300, which leads past 0
turned_a_little : is_from_to 8 14 (direction_c 0 (pos 2) (pos 1) 17) ≡ true
unfolding all_directions is_from_to
turned_a_little = refl

turned_past_zero : is_from_to 85 91 (direction_c 0 (pos 2) (pos 1) 300) ≡ true
unfolding all_directions is_from_to
turned_past_zero = refl

-- there is no direction: the turn isn't taken off
nowhere : direction_c 0 (pos 0) (pos 0) 17 ≡ exact (whole 0)
unfolding all_directions
nowhere = refl

-- gamma of steep and of flat directions, down and up
steep_down : is_from_to 25 31 (direction_gamma 0 (pos 1) (pos 0) (negsuc 1)) ≡ true
unfolding all_directions is_from_to
steep_down = refl

flat_down : is_from_to 59 65 (direction_gamma 0 (pos 0) (negsuc 1) (negsuc 0)) ≡ true
unfolding all_directions is_from_to
flat_down = refl

flat_up : is_from_to 115 121 (direction_gamma 0 (negsuc 1) (pos 0) (pos 1)) ≡ true
unfolding all_directions is_from_to
flat_up = refl

steep_up : is_from_to 149 155 (direction_gamma 0 (pos 0) (pos 1) (pos 2)) ≡ true
unfolding all_directions is_from_to
steep_up = refl

straight_down : is_from_to 0 0 (direction_gamma 0 (pos 0) (pos 0) (negsuc 0)) ≡ true
unfolding all_directions is_from_to
straight_down = refl

straight_up : is_from_to 180 180 (direction_gamma 0 (pos 0) (pos 0) (pos 1)) ≡ true
unfolding all_directions is_from_to
straight_up = refl

-- level: 90 degrees, neither down nor up
level : is_from_to 90 90 (direction_gamma 0 (pos 3) (pos 4) (pos 0)) ≡ true
unfolding all_directions is_from_to
level = refl

-- along the axes, where a direction has neither a negative x nor a negative y but for west and south
west : is_from_to 180 180 (direction_c 0 (negsuc 4) (pos 0) 0) ≡ true
unfolding all_directions is_from_to
west = refl

south : is_from_to 270 270 (direction_c 0 (pos 0) (negsuc 4) 0) ≡ true
unfolding all_directions is_from_to
south = refl

-- the turn of 90 degrees leads from 0 to 270
east_turned : is_from_to 270 270 (direction_c 0 (pos 1) (pos 0) 90) ≡ true
unfolding all_directions is_from_to
east_turned = refl
