-- The points that a lamp shines from.
use Rattle.std.specs.Prelude.{ℕ, ◌+◌, ◌-◌, ◌*◌, ◌/◌, ◌%◌, ◌<◌, ◌≤◌, zero, suc, List, [], ◌∷◌, ◌++◌}
use Rattle.room_layout.specs.Accepted.{IsBetween}
use Rattle.room_layout.specs.Across.{across, extent_of, parts_of}
use Rattle.room_layout.specs.Place.{Place, point_of}
use Rattle.room_layout.specs.declared.geometry.Point.{Point}
use Rattle.room_layout.specs.declared.geometry.Size.{Size}
use Rattle.room_layout.specs.declared.room.Lamp.{Lamp}

-- the middle, in half mm, of part i of an edge of `size` millimetres round `at` that is cut into equal parts, rounded down
abbrev pub middle_round : ℕ → ℕ → ℕ → ℕ → ℕ
middle_round at size parts i = 2 * at + (2 * i + 1) * size / parts - size

-- which part number k is along each axis: they are counted row by row along the first axis across the aim
abbrev pub part_of : Lamp → ℕ → Size
part_of l k = across l.aim (k % l.split_x) (k / l.split_x) 0

-- the lamp's rectangle lies across its aim. It is cut into equal parts along the room's axes, whatever its turn, and a point stands in
-- the middle of each.
unfoldable pub lamp_place : Lamp → ℕ → Place
lamp_place l k = record {
  x = middle_round l.at.x (extent_of l).x (parts_of l).x (part_of l k).x;
  y = middle_round l.at.y (extent_of l).y (parts_of l).y (part_of l k).y;
  z = middle_round l.at.z (extent_of l).z (parts_of l).z (part_of l k).z;
}

abbrev pub part_count : Lamp → ℕ
part_count l = l.split_x * l.split_y

-- row by row: the first so many, and all
unfoldable pub first_points : Lamp → ℕ → List Point
first_points l zero = []
first_points l (suc k) = first_points l k ++ point_of (lamp_place l k) ∷ []

abbrev pub lamp_points : Lamp → List Point
lamp_points l = first_points l (part_count l)

-- half of the size on either side of the place is within 100 m of the corner
abbrev pub IsEdgeInReach : ℕ → ℕ → Type 0
IsEdgeInReach at size = (size ≤ 2 * at) × (2 * at + size ≤ 200000)

-- an edge of a lamp within reach, cut into some parts, and one of them
pub record IsPart (at size parts i : ℕ) : Type 0 where
  pub small : size ≤ 5000
  pub low : size ≤ 2 * at
  pub high : 2 * at + size ≤ 200000
  pub few : IsBetween 1 8 parts
  pub one : i < parts

-- a lamp whose rectangle lies within 100 m of the corner along each axis, and whose other numbers are in their ranges
pub record IsLamp (l : Lamp) : Type 0 where
  pub x : IsEdgeInReach l.at.x (extent_of l).x
  pub y : IsEdgeInReach l.at.y (extent_of l).y
  pub z : IsEdgeInReach l.at.z (extent_of l).z
  pub turn : l.turn ≤ 359
  pub maintenance : l.maintenance ≤ 1000
  pub size_x : l.size_x ≤ 5000
  pub size_y : l.size_y ≤ 5000
  pub split_x : IsBetween 1 8 l.split_x
  pub split_y : IsBetween 1 8 l.split_y
