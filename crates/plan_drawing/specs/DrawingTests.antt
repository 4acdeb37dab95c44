-- Sizes, places, steps and single pieces of the plans, computed.
use Rattle.std.specs.Prelude.{◌≡◌, ℕ, ◌+◌, refl, codes, map, [], ◌∷◌, Some, None, true, false}
use Rattle.std.specs.Fmt.{digits}
use Rattle.room_layout.specs.Across.{across}
use Rattle.room_layout.specs.declared.geometry.Face.TheVariants.{Up, Down, East, West, North, South}
use Rattle.room_layout.specs.declared.geometry.Size.{Size}
use Rattle.room_layout.specs.declared.room.Room.{Room}
use Rattle.room_layout.specs.declared.room.Shine.TheVariants.{Even}
use Rattle.plan_drawing.specs.Frame.{bar_drawn, bar_label, edge_letters, scale_bar}
use Rattle.plan_drawing.specs.Light.{cell_text, lower_text, number_text, placed_cell, upper_text}
use Rattle.plan_drawing.specs.Metres.{area_text, metres}
use Rattle.plan_drawing.specs.Pieces.{first, joined}
use Rattle.plan_drawing.specs.Sizes.{bar_length, box_area, cell_area, is_fine, label_size, lamp_radius, number_size, numbers_fit, task_area, unit, view_height, view_width}
use Rattle.plan_drawing.specs.Steps.{ink_class, limits, step}
use Rattle.plan_drawing.specs.Things.{aim_mark, arrow_head, arrow_line, box_drawn, box_label, drawn_box, drawn_lamp, lamp_circle, lamp_head, ring, shine_drawn, turn_mark}

-- ---- pieces

three_pieces : first 3 (λ k. (10 + k) ∷ []) ≡ 10 ∷ 11 ∷ 12 ∷ []
unfolding first
three_pieces = refl

a_place_in_metres : map metres (0 ∷ 5 ∷ 7200 ∷ []) ≡ codes "0.000" ∷ codes "0.005" ∷ codes "7.200" ∷ []
unfolding digits
a_place_in_metres = refl

an_area : area_text (record { x = 1; y = 20; width = 300; height = 0 }) ≡ codes "x='1' y='20' width='300' height='0'"
unfolding digits
an_area = refl

-- ---- steps

-- each limit begins a step, a hundredth of a lux below it is still in the one before, and there is no step after 5000 lux
steps_at_limits : map step (0 ∷ 499 ∷ 500 ∷ 14999 ∷ 15000 ∷ 499999 ∷ 500000 ∷ 100000000 ∷ []) ≡ 0 ∷ 0 ∷ 1 ∷ 7 ∷ 8 ∷ 16 ∷ 17 ∷ 17 ∷ []
unfolding step
steps_at_limits = refl

letters : map ink_class (0 ∷ 7 ∷ 8 ∷ 17 ∷ []) ≡ codes "w" ∷ codes "w" ∷ codes "k" ∷ codes "k" ∷ []
letters = refl

-- ---- sizes

-- an office of 7.2 by 5.4 m, with twelve by nine points over its whole floor
office : Room
office = record {
  size = record { x = 7200; y = 5400; z = 2800 };
  reflect = record { floor = 0; ceiling = 0; x0 = 0; x1 = 0; y0 = 0; y1 = 0 };
  patch = 600;
  blocks = [];
  lamps = [];
  files = [];
  task = record { from_x = 0; from_y = 0; to_x = 7200; to_y = 5400; height = 750; nx = 12; ny = 9 };
  limits = record { average = None; uniformity = None };
}

-- the same points over 100 m by 1 m
corridor : Room
corridor = record office {
  size = record { x = 1000; y = 100000; z = 2800 };
  task = record { from_x = 100; from_y = 0; to_x = 901; to_y = 100000; height = 0; nx = 12; ny = 9 };
}

office_sizes : unit office.size ∷ view_width office.size ∷ view_height office.size ∷ bar_length office.size ∷ number_size office ∷ [] ≡ 225 ∷ 8100 ∷ 6075 ∷ 1000 ∷ 100 ∷ []
unfolding office
office_sizes = refl

office_numbers : numbers_fit office ∷ is_fine office ∷ [] ≡ true ∷ true ∷ []
unfolding office
office_numbers = refl

corridor_sizes :
    unit corridor.size ∷ view_width corridor.size ∷ view_height corridor.size ∷ bar_length corridor.size ∷ number_size corridor ∷ []
    ≡ 3125 ∷ 45833 ∷ 109375 ∷ 10000 ∷ 11 ∷ []
unfolding office corridor
corridor_sizes = refl

corridor_numbers : numbers_fit corridor ∷ is_fine corridor ∷ [] ≡ false ∷ false ∷ []
unfolding office corridor
corridor_numbers = refl

-- a quarter of the longer edge, and a millimetre less of the edge
bars : map (λ x. bar_length (record { x = x; y = 500; z = 500 })) (1999 ∷ 2000 ∷ 3999 ∷ 4000 ∷ 19999 ∷ 20000 ∷ 39999 ∷ 40000 ∷ [])
    ≡ 100 ∷ 500 ∷ 500 ∷ 1000 ∷ 1000 ∷ 5000 ∷ 5000 ∷ 10000 ∷ []
bars = refl

-- row 1 is the second from the foot of the page
a_cell : cell_area office 11 1 ≡ record { x = 6600; y = 4200; width = 600; height = 600 }
unfolding office
a_cell = refl

-- 801 mm in twelve parts: the second is cut at 166.75 and 233.5
a_cell_between_millimetres : cell_area corridor 1 0 ≡ record { x = 166; y = 88889; width = 67; height = 11111 }
unfolding office corridor
a_cell_between_millimetres = refl

a_box : box_area 5400 (record { lo = record { x = 600; y = 700; z = 0 }; hi = record { x = 2200; y = 1500; z = 740 }; reflect = 0 })
    ≡ record { x = 600; y = 3900; width = 1600; height = 800 }
a_box = refl

-- 0.3 of the longer side, 0.7 of the shorter one, and three quarters of a unit
labels :
    map (label_size 225) (record { x = 0; y = 0; width = 500; height = 400 } ∷ record { x = 0; y = 0; width = 50; height = 4000 } ∷ record { x = 0; y = 0; width = 1600; height = 800 } ∷ [])
    ≡ 150 ∷ 35 ∷ 168 ∷ []
labels = refl

circles : map (lamp_radius (record { x = 7200; y = 5400; z = 2800 })) (0 ∷ 64 ∷ 65 ∷ []) ≡ 180 ∷ 180 ∷ 90 ∷ []
circles = refl

circles_of_a_corridor : lamp_radius (record { x = 2000; y = 20000; z = 2800 }) 8 ≡ 200
circles_of_a_corridor = refl

-- letters along an edge of 20 m have a unit, and along one of 2 m a sixth of the edge and the margin
letters_along : edge_letters 625 2500 20000 ∷ edge_letters 625 625 2000 ∷ [] ≡ 625 ∷ 437 ∷ []
letters_along = refl

-- ---- pieces of the light

a_bar : scale_bar 225 1000 5400 ≡ codes "<path class='bar' d='M0 5625h1000'/><text class='label' font-size='180' x='1112' y='5681'>1.000 m</text>\n"
unfolding digits bar_drawn bar_label
a_bar = refl

a_covered_cell : placed_cell office 11 1 None ≡ codes "<rect class='covered' x='6600' y='4200' width='600' height='600'><title>point 11 1 at 6.900, 0.900 m: covered by a box</title></rect>\n"
unfolding office digits cell_text
a_covered_cell = refl

a_cell_with_light : placed_cell office 0 0 (Some (record { lo = 49999; hi = 50001 }))
    ≡ codes "<rect class='s10' x='0' y='4800' width='600' height='600'><title>point 0 0 at 0.300, 0.300 m: 499.99 to 500.01 lx</title></rect>\n"
unfolding office digits step cell_text
a_cell_with_light = refl

a_number : number_text 100 (record { x = 0; y = 4800; width = 600; height = 600 }) (Some (record { lo = 72279; hi = 72280 }))
    ≡ codes "<text class='s11 k' x='300' y='5080'>722.79<tspan x='300' dy='120'>722.80</tspan></text>\n"
unfolding digits step lower_text upper_text
a_number = refl

no_number : number_text 100 (record { x = 0; y = 4800; width = 600; height = 600 }) None ≡ []
no_number = refl

-- ---- pieces of the things

a_narrow_box : drawn_box office 4 (record { lo = record { x = 6700; y = 300; z = 0 }; hi = record { x = 7200; y = 4300; z = 2000 }; reflect = 0 })
    ≡ codes "<rect class='box' x='6700' y='1100' width='500' height='4000'><title>box 4: from 0.000 to 2.000 m above the floor</title></rect>\n<text class='boxname' font-size='168' transform='translate(6868 5044) rotate(-90)'>2.000</text>\n"
unfolding office digits box_drawn box_label
a_narrow_box = refl

-- a lamp at the wall x = 0 that shines into the room: its size is along y and z
a_lamp_at_a_wall : drawn_lamp 5400 180 1 (record { at = record { x = 0; y = 4000; z = 1800 }; shine = Even 0; turn = 0; maintenance = 0; size_x = 300; size_y = 1200; split_x = 1; split_y = 1; aim = East })
    ≡ codes "<g transform='translate(0 1400)'><title>lamp 1 at 0.000, 4.000 m, 1.800 m above the floor, aim +x, turn 0</title>\n<path class='shine' d='M-0-150h0v300h-0z'/>\n<path class='aim' transform='rotate(0)' d='M0 0H360l-60-60m60 60l-60 60'/>\n<circle class='lamp' r='180'/><text class='lampname' font-size='180' y='60'>1</text></g>\n"
unfolding digits across lamp_head shine_drawn arrow_line arrow_head lamp_circle
a_lamp_at_a_wall = refl

-- C 0 of a lamp that hangs is turned against the clock, and of one that shines upward with it
turned_lamps : aim_mark 180 90 Down ∷ aim_mark 180 90 Up ∷ aim_mark 180 0 Down ∷ []
    ≡ codes "<path class='aim' transform='rotate(270)' d='M0 0H360'/>\n" ∷ codes "<circle class='ring' r='225'/>\n<path class='aim' transform='rotate(90)' d='M0 0H360'/>\n" ∷ [] ∷ []
unfolding digits turn_mark ring
turned_lamps = refl
