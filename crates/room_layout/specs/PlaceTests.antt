-- Task points and distances of a hall of 6000 by 6000 mm, by hand.
use Rattle.std.specs.Prelude.{◌≡◌, refl, pos}
use Rattle.room_layout.specs.declared.geometry.Face.TheVariants.{Up, Down}
use Rattle.room_layout.specs.Place.{place_of, point_of, place_of_size, in_front, squared_distance, task_place}

-- one point over the whole floor stands in its middle
middle : task_place (record { from_x = 0; from_y = 0; to_x = 6000; to_y = 6000; height = 0; nx = 1; ny = 1 }) 0 0 ≡ record { x = 6000; y = 6000; z = 0 }
unfolding task_place
middle = refl

-- 2 * 100 + 3 * 1000 / 3 = 1200, 2 * 50 + 1 * 7 / 2 = 103 after rounding down, 2 * 750 = 1500
rounded_down : task_place (record { from_x = 100; from_y = 50; to_x = 1100; to_y = 57; height = 750; nx = 3; ny = 2 }) 1 0 ≡ record { x = 1200; y = 103; z = 1500 }
unfolding task_place
rounded_down = refl

-- a lamp at the ceiling is above the floor, and the floor isn't above the lamp: 3000 mm are 6000 half millimetres
above_floor : in_front Up (record { x = 0; y = 0; z = 0 }) (place_of_size (record { x = 3000; y = 3000; z = 3000 })) ≡ 6000
unfolding in_front
above_floor = refl

not_below_floor : in_front Down (record { x = 0; y = 0; z = 0 }) (place_of_size (record { x = 3000; y = 3000; z = 3000 })) ≡ 0
unfolding in_front
not_below_floor = refl

-- 3 * 3 + 4 * 4 + 12 * 12 = 13 * 13
squared : squared_distance (record { x = 4; y = 0; z = 12 }) (place_of (record { x = pos 1; y = pos 4; z = pos 0 })) ≡ 169
unfolding squared_distance
squared = refl

there_and_back : place_of (point_of (record { x = 1; y = 2; z = 3 })) ≡ record { x = 1; y = 2; z = 3 }
there_and_back = refl
