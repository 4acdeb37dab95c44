-- The points of a route: a line on the floor, with a point every 500 mm.
use Rattle.std.specs.Prelude.{ℕ, ◌≡◌, ◌+◌, ◌-◌, ◌*◌, ◌<◌, ◌≤◌, ◌⊎◌, pos, nat_le, if◌then◌else◌, min, List, All, length, take, slice_index_or}
use Rattle.std.specs.Int.{div_ceil}
use Rattle.room_layout.specs.Place.{Place, apart, point_of}
use Rattle.room_layout.specs.declared.geometry.Point.{Point}
use Rattle.room_layout.specs.declared.geometry.Size.{Size}
use Rattle.room_layout.specs.declared.room.Room.{Room}
use Rattle.escape_route.specs.declared.route.Route.{Route}
use Rattle.escape_route.specs.declared.route.RouteFault.{RouteFault}
use Rattle.escape_route.specs.declared.route.RouteFault.TheVariants.{Line, Lamp, Memory}

-- all four numbers are at most 100,000
pub record IsWithinReach (r : Route) : Type 0 where
  pub x0 : r.x0 ≤ 100000
  pub y0 : r.y0 ≤ 100000
  pub x1 : r.x1 ≤ 100000
  pub y1 : r.y1 ≤ 100000

-- ---- where its points lie

-- the length of a line along an axis, in mm
abbrev pub route_length : Route → ℕ
route_length r = apart r.x0 r.x1 + apart r.y0 r.y1

abbrev pub point_count : Route → ℕ
point_count r = div_ceil (route_length r) 500 + 1

-- the coordinate, in half mm, that lies d mm from a towards b, and no further than b
abbrev pub towards : ℕ → ℕ → ℕ → ℕ
towards a b d = if nat_le a b then 2 * (a + min d (apart a b)) else 2 * (a - min d (apart a b))

-- point k lies 500 k mm from the first end, and the last point at the second end
abbrev pub route_place : Route → ℕ → Place
route_place r k = record { x = towards r.x0 r.x1 (k * 500); y = towards r.y0 r.y1 (k * 500); z = 0 }

abbrev pub no_point : Point
no_point = record { x = pos 0; y = pos 0; z = pos 0 }

abbrev pub point_of_number : List Point → ℕ → Point
point_of_number points k = slice_index_or points k no_point

-- the points of a route, in their order
pub record AreRoutePoints (r : Route) (points : List Point) : Type 0 where
  pub size : length points ≡ point_count r
  pub each : (k : ℕ) → k < length points → point_of_number points k ≡ point_of (route_place r k)

-- ---- whether it is served

-- the line lies along an axis, and its ends in a room of this size
pub record IsLineIn (size : Size) (r : Route) : Type 0 where
  pub along : (r.x0 ≡ r.x1) ⊎ (r.y0 ≡ r.y1)
  pub first_x : r.x0 ≤ size.x
  pub first_y : r.y0 ≤ size.y
  pub second_x : r.x1 ≤ size.x
  pub second_y : r.y1 ≤ size.y

-- so, and each number is that of a lamp
pub record IsRouteIn (room : Room) (r : Route) (lamps : List ℕ) : Type 0 where
  pub line : IsLineIn room.size r
  pub marked : All (λ k. k < length room.lamps) lamps

-- k is the first of these numbers that isn't below that count
pub record IsFirstMissing (count : ℕ) (lamps : List ℕ) (k : ℕ) : Type 0 where
  pub place : ℕ
  pub within : place < length lamps
  pub is : k ≡ slice_index_or lamps place 0
  pub missing : count ≤ k
  pub before : All (λ i. i < count) (take place lamps)

-- what each refusal says, where the earlier one doesn't hold; want of memory says nothing
abbrev pub IsRouteCause : Room → Route → List ℕ → RouteFault → Type 0
IsRouteCause room r lamps Line = ¬ IsLineIn room.size r
IsRouteCause room r lamps (Lamp k) = IsLineIn room.size r × IsFirstMissing (length room.lamps) lamps k
IsRouteCause room r lamps Memory = Unit {0}
