-- The step from a lamp's point to a place, and the intensity of a table there, computed.
use Rattle.std.specs.Prelude.{◌≡◌, Bool, ◌&&◌, true, pos, negsuc, [], ◌∷◌, refl}
use Rattle.fx_base.specs.Fraction.{Fraction, at_most, ratio, whole, half_power, ◌+ᶠ◌, ◌-ᶠ◌}
use Rattle.fx_base.specs.Interval.{exact}
use Rattle.room_layout.specs.Place.{Place}
use Rattle.room_layout.specs.declared.geometry.Face.TheVariants.{Up, Down, East, West, North, South}
use Rattle.room_layout.specs.declared.room.Lamp.{Lamp}
use Rattle.room_layout.specs.declared.room.Shine.TheVariants.{File}
use Rattle.angle_bracket.specs.DirectionTests.{all_directions}
use Rattle.photo_table.specs.Table.{Table}
use Rattle.photo_table.specs.Tests.{computed}
use Rattle.direct_light.specs.Directions.{Step, step_from, framed, seen, loose_seen}

-- whatever the intensities are made of
unfoldable of_seen : Unit {0}
unfolding all_directions computed half_power ◌-ᶠ◌ step_from framed
of_seen = tt

abbrev point : Place
point = record { x = 3000; y = 3000; z = 6000 }

-- down to the floor, east and north of the point: gamma is counted from the way down, so z is below 0
down_and_aside : step_from point (record { x = 4000; y = 3500; z = 0 }) ≡ record { x = pos 1000; y = pos 500; z = negsuc 5999 }
unfolding step_from
down_and_aside = refl

-- up, west and south of it
up_and_aside : step_from point (record { x = 2000; y = 2500; z = 7000 }) ≡ record { x = negsuc 999; y = negsuc 499; z = pos 1000 }
unfolding step_from
up_and_aside = refl

-- ---- a step of 1 along x, 2 along y and 3 along z in the frame of each aim

abbrev one_two_three : Step
one_two_three = record { x = pos 1; y = pos 2; z = pos 3 }

-- the frame of a lamp that hangs is that of the room
hanging : framed Down one_two_three ≡ record { x = pos 1; y = pos 2; z = pos 3 }
unfolding framed
hanging = refl

-- turned over about x
standing : framed Up one_two_three ≡ record { x = pos 1; y = negsuc 1; z = negsuc 2 }
unfolding framed
standing = refl

-- on a wall, C 0 lies along y, and C grows downwards where the lamp faces along x
along_x : framed East one_two_three ≡ record { x = pos 2; y = negsuc 2; z = negsuc 0 }
unfolding framed
along_x = refl

against_x : framed West one_two_three ≡ record { x = pos 2; y = pos 3; z = pos 1 }
unfolding framed
against_x = refl

-- or along x
along_y : framed North one_two_three ≡ record { x = pos 1; y = pos 3; z = negsuc 1 }
unfolding framed
along_y = refl

against_y : framed South one_two_three ≡ record { x = pos 1; y = negsuc 2; z = pos 2 }
unfolding framed
against_y = refl

-- ---- 300, 400, 500 and 600 cd straight down in the half-planes 0, 90, 180 and 270, and 0 at gamma 90 in each

abbrev table : Table
unfolding computed
table = record {
  planes = 0 ∷ 90000000 ∷ 180000000 ∷ 270000000 ∷ [];
  gammas = 0 ∷ 90000000 ∷ [];
  values = exact (whole 300) ∷ exact (whole 0) ∷ exact (whole 400) ∷ exact (whole 0) ∷ exact (whole 500) ∷ exact (whole 0) ∷ exact (whole 600) ∷ exact (whole 0) ∷ [];
}

-- a lamp that is turned by a quarter
abbrev lamp : Lamp
lamp = record { at = record { x = 1500; y = 1500; z = 3000 }; shine = File 0; turn = 90; maintenance = 1000; size_x = 0; size_y = 0; split_x = 1; split_y = 1; aim = Down }

abbrev is : Fraction → Fraction → Bool
is a b = at_most a b && at_most b a

abbrev below : Place
below = record { x = 3000; y = 3000; z = 0 }

-- straight down no turn counts
straight_down : (is (seen 0 table lamp point below).lo (whole 300) && is (seen 0 table lamp point below).hi (whole 300)) ≡ true
unfolding of_seen
straight_down = refl

-- to the east of a lamp that is turned by a quarter, the half-plane is that of 270 degrees: at gamma 45, the upper end of gamma at
-- this depth, it has a half of 600
east : (is (seen 0 table lamp point (record { x = 4000; y = 3000; z = 5000 })).lo (whole 300)) ≡ true
unfolding of_seen
east = refl

-- the loose form goes 1/4000 degree further in gamma, over which 300 / 90 cd a degree are lost, and to both sides of C 0, of which the
-- side of 270 degrees has 300 / 90 cd a degree more; and then 2^-30 cd
loose_below : is (loose_seen 0 table lamp point below).lo (ratio 300 1 -ᶠ ratio 300 360000 -ᶠ half_power 30) ≡ true
unfolding of_seen
loose_below = refl

loose_above : is (loose_seen 0 table lamp point below).hi (ratio 300 1 +ᶠ ratio 300 360000 +ᶠ half_power 30) ≡ true
unfolding of_seen
loose_above = refl

-- aimed up, the same lamp has 300 cd straight above it
straight_up : (is (seen 0 table (record lamp { aim = Up }) point (record { x = 3000; y = 3000; z = 9000 })).lo (whole 300)) ≡ true
unfolding of_seen
straight_up = refl
