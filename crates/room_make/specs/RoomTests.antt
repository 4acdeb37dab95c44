-- The text of a made room, computed.
use Rattle.std.specs.Prelude.{◌≡◌, ◌*◌, refl, codes, decimal, [], ◌∷◌}
use Rattle.std.specs.Fmt.{digits}
use Rattle.room_make.specs.Room.{pieces, pair, triple, box_count, edge_x, edge_y, lamp_columns, lamp_rows, middle_of, point_columns, point_rows, room_text}

-- the pieces stand in the order of their numbers, from 0
pieces_in_order : pieces decimal 3 ≡ codes "012"
unfolding pieces digits
pieces_in_order = refl

-- the whole text for 4
room_of_four : room_text 4
    ≡ codes "version = 1\n[room]\nsize = [2800, 2600, 2500]\nreflect = [200, 500, 400, 400, 300, 300]\npatch = 500\n[[box]]\nlo = [300, 400, 0]\nhi = [800, 1000, 700]\nreflect = 300\n[[lamp]]\nat = [1400, 1300, 2500]\ncandela = 400\n[task]\nfrom = [200, 200]\nto = [2600, 2400]\nheight = 800\npoints = [3, 2]\n"
unfolding pieces pair triple digits
room_of_four = refl

-- for 40 there are 10 boxes, 5 by 3 lamps and 12 by 10 points, which are 120
boxes_of_forty : box_count 40 ≡ 10
boxes_of_forty = refl

lamps_of_forty : lamp_columns 40 ∷ lamp_rows 40 ∷ [] ≡ 5 ∷ 3 ∷ []
lamps_of_forty = refl

points_of_forty : point_columns 40 ∷ point_rows 40 ∷ point_columns 40 * point_rows 40 ∷ [] ≡ 12 ∷ 10 ∷ 120 ∷ []
points_of_forty = refl

-- the columns stand at the middles of fifths of 10000, the rows at those of thirds of 8000: 1333.33, 4000 and 6666.67, rounded down
columns_of_forty : middle_of (edge_x 40) 5 0 ∷ middle_of (edge_x 40) 5 1 ∷ middle_of (edge_x 40) 5 4 ∷ [] ≡ 1000 ∷ 3000 ∷ 9000 ∷ []
columns_of_forty = refl

rows_of_forty : middle_of (edge_y 40) 3 0 ∷ middle_of (edge_y 40) 3 1 ∷ middle_of (edge_y 40) 3 2 ∷ [] ≡ 1333 ∷ 4000 ∷ 6666 ∷ []
rows_of_forty = refl
