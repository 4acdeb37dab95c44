-- The places at which the program computes.
use Rattle.std.specs.Prelude.{ℤ, pos, ◌≤ℤ◌}
use Rattle.room_layout.specs.Place.{Place}
use Rattle.room_layout.specs.declared.geometry.Point.{Point}
use Rattle.room_layout.specs.declared.geometry.Position.{Position}

abbrev pub place_at : Position → Place
place_at p = record { x = p.x; y = p.y; z = p.z }

-- 0 to 200,000 half mm
pub record IsCoordinate (c : ℤ) : Type 0 where
  pub least : pos 0 ≤ℤ c
  pub most : c ≤ℤ pos 200000

-- within 100 m of the corner along each axis
pub record IsInReach (p : Point) : Type 0 where
  pub x : IsCoordinate p.x
  pub y : IsCoordinate p.y
  pub z : IsCoordinate p.z
