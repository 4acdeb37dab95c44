-- Places in half millimetres, as whole numbers.
use Rattle.std.specs.Prelude.{ℕ, ◌+◌, ◌*◌, ◌-◌, ◌/◌, pos, nat_abs}
use Rattle.room_layout.specs.declared.geometry.Point.{Point}
use Rattle.room_layout.specs.declared.geometry.Size.{Size}
use Rattle.room_layout.specs.declared.geometry.Face.{Face}
use Rattle.room_layout.specs.declared.geometry.Face.TheVariants.{Up, Down, East, West, North, South}
use Rattle.room_layout.specs.declared.room.TaskGrid.{TaskGrid}

pub record Place : Type 0 where
  pub x : ℕ
  pub y : ℕ
  pub z : ℕ

-- the place of a point in a room, whose coordinates aren't negative
abbrev pub place_of : Point → Place
place_of p = record { x = nat_abs p.x; y = nat_abs p.y; z = nat_abs p.z }

abbrev pub point_of : Place → Point
point_of p = record { x = pos p.x; y = pos p.y; z = pos p.z }

-- the place at so many millimetres
abbrev pub place_of_size : Size → Place
place_of_size s = record { x = 2 * s.x; y = 2 * s.y; z = 2 * s.z }

-- how far q lies in front of the plane through p with this face, and 0 where it doesn't
unfoldable pub in_front : Face → Place → Place → ℕ
in_front Up p q = q.z - p.z
in_front Down p q = p.z - q.z
in_front East p q = q.x - p.x
in_front West p q = p.x - q.x
in_front North p q = q.y - p.y
in_front South p q = p.y - q.y

-- the difference of two numbers
abbrev pub apart : ℕ → ℕ → ℕ
apart a b = (a - b) + (b - a)

-- the square of the distance between two places
unfoldable pub squared_distance : Place → Place → ℕ
squared_distance p q = apart p.x q.x * apart p.x q.x + apart p.y q.y * apart p.y q.y + apart p.z q.z * apart p.z q.z

-- the middle of part i of an edge from `from` to `to` in millimetres that is cut into n parts, rounded down to half a millimetre
abbrev pub middle_of_part : ℕ → ℕ → ℕ → ℕ → ℕ
middle_of_part from to n i = 2 * from + (2 * i + 1) * (to - from) / n

-- the task point in column i of row j
unfoldable pub task_place : TaskGrid → ℕ → ℕ → Place
task_place t i j = record { x = middle_of_part t.from_x t.to_x t.nx i; y = middle_of_part t.from_y t.to_y t.ny j; z = 2 * t.height }
