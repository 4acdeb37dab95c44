-- The text of the room that is made for a number n, as a layout: its edges, its boxes in a row, its lamps in a grid and its task.
-- Lengths are in millimetres.
use Rattle.std.specs.Prelude.{ℕ, suc, zero, ◌+◌, ◌-◌, ◌*◌, ◌/◌, List, [], ◌++◌, codes, decimal}

-- ---- sizes and counts

-- the edge along x
abbrev pub edge_x : ℕ → ℕ
edge_x n = 2000 + 200 * n

-- the edge along y
abbrev pub edge_y : ℕ → ℕ
edge_y n = 2000 + 150 * n

abbrev pub box_count : ℕ → ℕ
box_count n = n / 4

-- lamps along x
abbrev pub lamp_columns : ℕ → ℕ
lamp_columns n = 1 + n / 10

-- lamps along y
abbrev pub lamp_rows : ℕ → ℕ
lamp_rows n = 1 + n / 20

-- task points along x
abbrev pub point_columns : ℕ → ℕ
point_columns n = 2 + n / 4

-- task points along y
abbrev pub point_rows : ℕ → ℕ
point_rows n = 2 + n / 5

-- the middle of the part with number i, from 0, of an edge that is cut into equal parts
abbrev pub middle_of : ℕ → ℕ → ℕ → ℕ
middle_of edge parts i = (2 * i + 1) * edge / (2 * parts)

-- ---- texts

-- two numbers, as [3, 2]
unfoldable pub pair : ℕ → ℕ → List ℕ
pair a b = codes "[" ++ decimal a ++ codes ", " ++ decimal b ++ codes "]"

-- three numbers, as [2800, 2600, 2500]
unfoldable pub triple : ℕ → ℕ → ℕ → List ℕ
triple a b c = codes "[" ++ decimal a ++ codes ", " ++ decimal b ++ codes ", " ++ decimal c ++ codes "]"

-- the pieces with the numbers below a count, one after the other
unfoldable pub pieces : (ℕ → List ℕ) → ℕ → List ℕ
pieces piece zero = []
pieces piece (suc k) = pieces piece k ++ piece k

-- the version, the room's size, its reflectances and the longest edge of a patch
abbrev pub head_text : ℕ → List ℕ
head_text n = codes "version = 1\n[room]\nsize = " ++ triple (edge_x n) (edge_y n) 2500 ++ codes "\nreflect = [200, 500, 400, 400, 300, 300]\npatch = 500\n"

-- box k of a row along x, 800 apart: 500 by 600 by 700
abbrev pub box_text : ℕ → List ℕ
box_text k = codes "[[box]]\nlo = " ++ triple (300 + 800 * k) 400 0 ++ codes "\nhi = " ++ triple (800 + 800 * k) 1000 700 ++ codes "\nreflect = 300\n"

-- the lamp in row j and column i, under the ceiling
abbrev pub lamp_text : ℕ → ℕ → ℕ → List ℕ
lamp_text n j i = codes "[[lamp]]\nat = " ++ triple (middle_of (edge_x n) (lamp_columns n) i) (middle_of (edge_y n) (lamp_rows n) j) 2500 ++ codes "\ncandela = 400\n"

abbrev pub lamp_row_text : ℕ → ℕ → List ℕ
lamp_row_text n j = pieces (lamp_text n j) (lamp_columns n)

-- a rectangle 200 inside the walls, 800 above the floor
abbrev pub task_text : ℕ → List ℕ
task_text n = codes "[task]\nfrom = " ++ pair 200 200 ++ codes "\nto = " ++ pair (edge_x n - 200) (edge_y n - 200) ++ codes "\nheight = 800\npoints = " ++ pair (point_columns n) (point_rows n) ++ codes "\n"

-- the room's own lines, its boxes, its lamps row by row, and its task
abbrev pub room_text : ℕ → List ℕ
room_text n = head_text n ++ pieces box_text (box_count n) ++ pieces (lamp_row_text n) (lamp_rows n) ++ task_text n
