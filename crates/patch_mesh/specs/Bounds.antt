-- Where patches and task points lie, and how large their numbers are.
use Rattle.std.specs.Prelude.{ℕ, ◌*◌, ◌≤◌, ℤ, pos, ◌≤ℤ◌}
use Rattle.room_layout.specs.declared.geometry.Point.{Point}
use Rattle.room_layout.specs.declared.geometry.Size.{Size}
use Rattle.patch_mesh.specs.declared.surface.Surface.{Surface}
use Rattle.patch_mesh.specs.declared.tiling.Tiling.{Tiling}
use Rattle.patch_mesh.specs.declared.patch.Patch.{Patch}
use Rattle.patch_mesh.specs.declared.patch.TaskPoint.{TaskPoint}
use Rattle.patch_mesh.specs.Surfaces.{at, first_edge, second_edge}

-- a coordinate in half mm lies along an edge in mm
abbrev pub IsAlong : ℕ → ℤ → Type 0
IsAlong edge z = (pos 0 ≤ℤ z) × (z ≤ℤ pos (2 * edge))

-- the point lies in a room of this size
pub record IsPointIn (room : Size) (p : Point) : Type 0 where
  pub x : IsAlong room.x p.x
  pub y : IsAlong room.y p.y
  pub z : IsAlong room.z p.z

-- a patch that lies in a room of this size; its area is in square mm and its reflectance in thousandths
pub record IsPatchIn (room : Size) (p : Patch) : Type 0 where
  pub centre : IsPointIn room p.centre
  pub some : 1 ≤ p.area
  pub area : p.area ≤ 10000000000
  pub reflect : p.reflect ≤ 950

-- the largest room of the second version of the layout, 100 m along each axis
abbrev pub largest_room : Size
largest_room = at 100000 100000 100000

-- a rectangle with an inside, in a room of this size
pub record IsSurfaceIn (room : Size) (s : Surface) : Type 0 where
  pub x : (s.lo.x ≤ s.hi.x) × (s.hi.x ≤ room.x)
  pub y : (s.lo.y ≤ s.hi.y) × (s.hi.y ≤ room.y)
  pub z : (s.lo.z ≤ s.hi.z) × (s.hi.z ≤ room.z)
  pub first : 1 ≤ first_edge s
  pub second : 1 ≤ second_edge s
  pub reflect : s.reflect ≤ 950

-- a surface in the largest room, cut into at most as many parts as it is long
pub record IsCutSurface (t : Tiling) : Type 0 where
  pub surface : IsSurfaceIn largest_room t.surface
  pub columns : t.columns ≤ 100000
  pub rows : t.rows ≤ 100000

pub record IsTaskPointIn (room : Size) (p : TaskPoint) : Type 0 where
  pub at : IsPointIn room p.at
