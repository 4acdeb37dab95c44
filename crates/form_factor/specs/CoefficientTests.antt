-- Coefficients, computed with 3 in place of pi, and at small depths.
use Rattle.std.specs.Prelude.{ℕ, ◌≡◌, ◌*◌, refl, true, false}
use Rattle.fx_base.specs.Fraction.{◌+ᶠ◌, ◌-ᶠ◌, ◌*ᶠ◌, ◌/ᶠ◌, ◌≈ᶠ◌, ratio, whole, half_power, at_most}
use Rattle.fx_base.specs.Interval.{exact}
use Rattle.series_enclose.specs.Series.{upper_sum, lower_sum, power_over, arctan_term, one_fifth, one_of_239, pi}
use Rattle.room_layout.specs.Place.{Place, point_of, in_front, squared_distance}
use Rattle.room_layout.specs.declared.geometry.Face.{Face}
use Rattle.room_layout.specs.declared.geometry.Face.TheVariants.{Up, Down, East, West, North, South}
use Rattle.patch_mesh.specs.declared.patch.Patch.{Patch}
use Rattle.form_factor.specs.Coefficient.{kernel, fronts, coefficient, loose_coefficient}

-- floor and ceiling of a cube of 2 m that reflects a half: 0.5 * (4000^2 / 4000^2) * 1 / (3 + 1)
facing : kernel 500 (4000 * 4000) (4000 * 4000) (4 * 4000000) (whole 3) ≈ᶠ ratio 1 8
unfolding kernel ratio whole ◌+ᶠ◌ ◌*ᶠ◌ ◌/ᶠ◌
facing = record { cross = refl }

-- floor and wall: both centres lie 2000 before the other's plane, 0.5 * (2000^2 / 8000000) * 2 / (3 + 2)
across : kernel 500 (2000 * 2000) 8000000 (4 * 4000000) (whole 3) ≈ᶠ ratio 1 10
unfolding kernel ratio whole ◌+ᶠ◌ ◌*ᶠ◌ ◌/ᶠ◌
across = record { cross = refl }

abbrev floor : Place
floor = record { x = 2000; y = 2000; z = 0 }

-- the floor sees the east wall, which is 2000 half mm away and 2000 up
fronts_of_floor_and_wall : fronts floor Up (record { x = 0; y = 2000; z = 2000 }) East ≡ 4000000
unfolding fronts in_front
fronts_of_floor_and_wall = refl

-- a patch doesn't see itself
not_itself : fronts floor Up floor Up ≡ 0
unfolding fronts in_front
not_itself = refl

-- where something stands between, nothing is handed on
blocked : coefficient 2 floor Up (record { centre = point_of (record { x = 2000; y = 2000; z = 4000 }); face = Down; area = 4000000; reflect = 500 }) false ≡ exact (whole 0)
unfolding coefficient
blocked = refl

-- the other walls, and the ceiling 4000 above
fronts_of_floor_and_others : fronts floor Up (record { x = 4000; y = 2000; z = 2000 }) West ≡ 4000000
unfolding fronts in_front
fronts_of_floor_and_others = refl

fronts_of_floor_and_north : fronts floor Up (record { x = 2000; y = 500; z = 3000 }) North ≡ 3000 * 1500
unfolding fronts in_front
fronts_of_floor_and_north = refl

fronts_of_floor_and_south : fronts floor Up (record { x = 2000; y = 2700; z = 3000 }) South ≡ 3000 * 700
unfolding fronts in_front
fronts_of_floor_and_south = refl

-- a wall whose back is turned to the floor
wall_turned_away : fronts floor Up (record { x = 0; y = 2000; z = 2000 }) West ≡ 0
unfolding fronts in_front
wall_turned_away = refl

-- ---- with the enclosures of pi: at depth 0 from 281476/89625 to 651864872/204778785 (Machin's series, by Python's fractions)

-- a patch of 2 m by 2 m that reflects a half
abbrev half_white : ℕ → ℕ → ℕ → Face → Patch
half_white x y z face = record { centre = point_of (record { x = x; y = y; z = z }); face = face; area = 4000000; reflect = 500 }

-- whatever a coefficient is made of
unfoldable all_of_it : Unit {0}
unfolding ◌+ᶠ◌ ◌-ᶠ◌ ◌*ᶠ◌ ◌/ᶠ◌ whole ratio half_power upper_sum lower_sum power_over arctan_term one_fifth one_of_239 pi in_front squared_distance kernel fronts coefficient
all_of_it = tt

-- floor and ceiling: 1 / 2 * 1 / (p + 1), the lower end with the upper end of pi
facing_low : (coefficient 0 floor Up (half_white 2000 2000 4000 Down) true).lo ≈ᶠ ratio 204778785 1713287314
unfolding all_of_it
facing_low = record { cross = refl }

facing_high : (coefficient 0 floor Up (half_white 2000 2000 4000 Down) true).hi ≈ᶠ ratio 89625 742202
unfolding all_of_it
facing_high = record { cross = refl }

-- floor and wall: 1 / 2 * 1 / 2 * 2 / (p + 2)
across_low : (coefficient 0 floor Up (half_white 0 2000 2000 East) true).lo ≈ᶠ ratio 204778785 2122844884
unfolding all_of_it
across_low = record { cross = refl }

across_high : (coefficient 0 floor Up (half_white 0 2000 2000 East) true).hi ≈ᶠ ratio 89625 921452
unfolding all_of_it
across_high = record { cross = refl }

-- at depth 2 between 0.1207265026 and 0.1207265036, and round 0.5 / (pi + 1) = 0.12072650350261192.. (mpmath)
facing_from : at_most (ratio 1207265026 10000000000) (coefficient 2 floor Up (half_white 2000 2000 4000 Down) true).lo ≡ true
unfolding all_of_it
facing_from = refl

facing_below : at_most (coefficient 2 floor Up (half_white 2000 2000 4000 Down) true).lo (ratio 12072650350 100000000000) ≡ true
unfolding all_of_it
facing_below = refl

facing_above : at_most (ratio 12072650351 100000000000) (coefficient 2 floor Up (half_white 2000 2000 4000 Down) true).hi ≡ true
unfolding all_of_it
facing_above = refl

facing_to : at_most (coefficient 2 floor Up (half_white 2000 2000 4000 Down) true).hi (ratio 1207265036 10000000000) ≡ true
unfolding all_of_it
facing_to = refl

-- 2^-32 further out
facing_loosely : (loose_coefficient 0 floor Up (half_white 2000 2000 4000 Down) true).hi ≈ᶠ (ratio 89625 742202 +ᶠ ratio 1 4294967296)
unfolding all_of_it
facing_loosely = record { cross = refl }

-- a patch that lies behind the plane hands on nothing, however clear the way is
behind : coefficient 2 floor Down (half_white 2000 2000 4000 Down) true ≡ exact (whole 0)
unfolding all_of_it
behind = refl
