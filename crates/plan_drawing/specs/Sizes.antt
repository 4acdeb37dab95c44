-- How large a plan is and what is written on it, and where the cells of the task points lie, all in millimetres of the room. On the
-- page y runs upward, so that a drawn y is counted from the room's far edge down.
use Rattle.std.specs.Prelude.{ℕ, ◌+◌, ◌-◌, ◌*◌, ◌/◌, ◌%◌, Bool, false, min, max, nat_le, nat_lt, if◌then◌else◌}
use Rattle.room_layout.specs.Place.{middle_of_part}
use Rattle.room_layout.specs.declared.geometry.Size.{Size}
use Rattle.room_layout.specs.declared.room.Block.{Block}
use Rattle.room_layout.specs.declared.room.TaskGrid.{TaskGrid}
use Rattle.room_layout.specs.declared.room.Room.{Room}
use Rattle.plan_drawing.specs.declared.metres.Area.{Area}

abbrev pub longer_edge : Size → ℕ
longer_edge s = max s.x s.y

-- a thirty-second of the longer edge: margins, marks and letters are counted in it, so that they look alike on the plan of any room
abbrev pub unit : Size → ℕ
unit s = longer_edge s / 32

-- the plan with its margins, and wide enough for the scale bar of a narrow room
abbrev pub view_width : Size → ℕ
view_width s = max s.x (longer_edge s / 3) + 4 * unit s

abbrev pub view_height : Size → ℕ
view_height s = s.y + 3 * unit s

-- the longest of 0.1, 0.5, 1, 5 and 10 m that is at most a quarter of the longer edge
abbrev pub bar_length : Size → ℕ
bar_length s =
    if nat_lt (longer_edge s) 2000 then 100
    else if nat_lt (longer_edge s) 4000 then 500
    else if nat_lt (longer_edge s) 20000 then 1000
    else if nat_lt (longer_edge s) 40000 then 5000
    else 10000

-- ---- places

-- the whole floor
abbrev pub floor_area : Size → Area
floor_area s = record { x = 0; y = 0; width = s.x; height = s.y }

-- where an edge that is cut into n parts is cut before part i
abbrev pub cut_at : ℕ → ℕ → ℕ → ℕ → ℕ
cut_at from to n i = from + (to - from) * i / n

-- the cell of a column and a row: the part of the task rectangle round that task point
abbrev pub cell_area : Room → ℕ → ℕ → Area
cell_area room column row =
    let t = room.task in
    record {
      x = cut_at t.from_x t.to_x t.nx column;
      y = room.size.y - cut_at t.from_y t.to_y t.ny (row + 1);
      width = cut_at t.from_x t.to_x t.nx (column + 1) - cut_at t.from_x t.to_x t.nx column;
      height = cut_at t.from_y t.to_y t.ny (row + 1) - cut_at t.from_y t.to_y t.ny row;
    }

-- the middle of part i of such an edge, rounded down to millimetres, and so the task point of a column and of a row
abbrev pub point_at : ℕ → ℕ → ℕ → ℕ → ℕ
point_at from to n i = middle_of_part from to n i / 2

abbrev pub point_x : TaskGrid → ℕ → ℕ
point_x t column = point_at t.from_x t.to_x t.nx column

abbrev pub point_y : TaskGrid → ℕ → ℕ
point_y t row = point_at t.from_y t.to_y t.ny row

abbrev pub task_area : Room → Area
task_area room =
    let t = room.task in record { x = t.from_x; y = room.size.y - t.to_y; width = t.to_x - t.from_x; height = t.to_y - t.from_y }

-- a box as it is seen from above in a room that is so wide along y
abbrev pub box_area : ℕ → Block → Area
box_area edge b = record { x = b.lo.x; y = edge - b.hi.y; width = b.hi.x - b.lo.x; height = b.hi.y - b.lo.y }

-- ---- letters

-- how high the numbers in the cells are: six of them would stand side by side in a cell, and three above one another
abbrev pub number_size : Room → ℕ
number_size room =
    min (min ((room.task.to_x - room.task.from_x) / room.task.nx / 6) ((room.task.to_y - room.task.from_y) / room.task.ny / 3)) (unit room.size)

-- whether the numbers are large enough to be printed: a ninetieth of the longer edge
abbrev pub numbers_fit : Room → Bool
numbers_fit room = nat_le (longer_edge room.size) (90 * number_size room)

-- whether they can be read on a narrow screen only on a plan that is wider than it: they are smaller than a fiftieth of the longer edge
abbrev pub is_fine : Room → Bool
is_fine room = if numbers_fit room then nat_lt (50 * number_size room) (longer_edge room.size) else false

-- how high the label of a box is, along its longer side
abbrev pub label_size : ℕ → Area → ℕ
label_size u a = min (min (3 * u / 4) (3 * max a.width a.height / 10)) (7 * min a.width a.height / 10)

-- the radius of a lamp's circle, smaller where there are more than 64 lamps, and in a narrow room a tenth of the shorter edge at most
abbrev pub lamp_radius : Size → ℕ → ℕ
lamp_radius s lamps = min (if nat_le lamps 64 then 4 * unit s / 5 else 2 * unit s / 5) (min s.x s.y / 10)
