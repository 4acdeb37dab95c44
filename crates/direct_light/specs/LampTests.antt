-- Points of a lamp, computed. They are worked out by hand.
use Rattle.std.specs.Prelude.{◌≡◌, ℕ, [], ◌∷◌, refl}
use Rattle.room_layout.specs.Across.{across}
use Rattle.room_layout.specs.Place.{Place, point_of}
use Rattle.room_layout.specs.declared.geometry.Face.{Face}
use Rattle.room_layout.specs.declared.geometry.Face.TheVariants.{Up, Down, East, West, North, South}
use Rattle.room_layout.specs.declared.room.Lamp.{Lamp}
use Rattle.room_layout.specs.declared.room.Shine.TheVariants.{Even}
use Rattle.direct_light.specs.Lamps.{lamp_place, first_points, lamp_points}

-- 600 by 400 mm in two by two parts: 5,700 and 6,300 along x, 5,800 and 6,200 along y; along x first
abbrev split_lamp : Lamp
split_lamp = record { at = record { x = 3000; y = 3000; z = 3000 }; shine = Even 1; turn = 45; maintenance = 1000; size_x = 600; size_y = 400; split_x = 2; split_y = 2; aim = Down }

second_part : lamp_place split_lamp 1 ≡ record { x = 6300; y = 5800; z = 6000 }
unfolding lamp_place across
second_part = refl

third_part : lamp_place split_lamp 2 ≡ record { x = 5700; y = 6200; z = 6000 }
unfolding lamp_place across
third_part = refl

-- a middle that doesn't fall on half a millimetre is rounded down: 5 * 100 / 3 is 166 and two thirds
abbrev uneven_lamp : Lamp
uneven_lamp = record split_lamp { size_x = 100; split_x = 3 }

rounded_down : (lamp_place uneven_lamp 2).x ≡ 6066
unfolding lamp_place across
rounded_down = refl

abbrev at_x : ℕ → ℕ → Place
at_x x y = record { x = x; y = y; z = 6000 }

all_four : lamp_points split_lamp ≡ point_of (at_x 5700 5800) ∷ point_of (at_x 6300 5800) ∷ point_of (at_x 5700 6200) ∷ point_of (at_x 6300 6200) ∷ []
unfolding lamp_place across first_points
all_four = refl

-- ---- 600 by 400 mm in three by two parts, aimed along each axis in turn: point 5 stands in the last part along both axes

abbrev aimed : Face → Lamp
aimed face = record { at = record { x = 3000; y = 2000; z = 1000 }; shine = Even 1; turn = 45; maintenance = 1000; size_x = 600; size_y = 400; split_x = 3; split_y = 2; aim = face }

-- across z: 6,400 along x, 4,200 along y
last_down : lamp_place (aimed Down) 5 ≡ record { x = 6400; y = 4200; z = 2000 }
unfolding lamp_place across
last_down = refl

last_up : lamp_place (aimed Up) 5 ≡ record { x = 6400; y = 4200; z = 2000 }
unfolding lamp_place across
last_up = refl

-- across x: 4,400 along y, 2,200 along z
last_east : lamp_place (aimed East) 5 ≡ record { x = 6000; y = 4400; z = 2200 }
unfolding lamp_place across
last_east = refl

last_west : lamp_place (aimed West) 5 ≡ record { x = 6000; y = 4400; z = 2200 }
unfolding lamp_place across
last_west = refl

-- across y: 6,400 along x, 2,200 along z
last_north : lamp_place (aimed North) 5 ≡ record { x = 6400; y = 4000; z = 2200 }
unfolding lamp_place across
last_north = refl

last_south : lamp_place (aimed South) 5 ≡ record { x = 6400; y = 4000; z = 2200 }
unfolding lamp_place across
last_south = refl

-- and point 3 in the first part of the second row
next_row : lamp_place (aimed East) 3 ≡ record { x = 6000; y = 3600; z = 2200 }
unfolding lamp_place across
next_row = refl
