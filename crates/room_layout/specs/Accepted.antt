-- The rooms that the layout accepts: every number in the range that version 2 has for it, and the whole within the limits.
use Rattle.std.specs.Prelude.{◌≡◌, ℕ, ◌+◌, ◌*◌, ◌<◌, ◌≤◌, true, length, All, None, IfSome}
use Rattle.room_layout.specs.Across.{extent_of}
use Rattle.room_layout.specs.Checks.{is_name}
use Rattle.room_layout.specs.declared.geometry.Size.{Size}
use Rattle.room_layout.specs.declared.room.Reflects.{Reflects}
use Rattle.room_layout.specs.declared.room.Block.{Block}
use Rattle.room_layout.specs.declared.room.Lamp.{Lamp}
use Rattle.room_layout.specs.declared.room.Shine.{Shine}
use Rattle.room_layout.specs.declared.room.Shine.TheVariants.{Even, File}
use Rattle.room_layout.specs.declared.room.FileUse.{FileUse}
use Rattle.room_layout.specs.declared.room.TaskGrid.{TaskGrid}
use Rattle.room_layout.specs.declared.room.Limits.{Limits}
use Rattle.room_layout.specs.declared.room.Room.{Room}

-- ---- the parts of an accepted room

abbrev pub IsBetween : ℕ → ℕ → ℕ → Type 0
IsBetween lo hi n = (lo ≤ n) × (n ≤ hi)

pub record IsRoomSize (s : Size) : Type 0 where
  pub x : IsBetween 500 100000 s.x
  pub y : IsBetween 500 100000 s.y
  pub z : IsBetween 500 100000 s.z

pub record AreReflects (r : Reflects) : Type 0 where
  pub floor : r.floor ≤ 950
  pub ceiling : r.ceiling ≤ 950
  pub x0 : r.x0 ≤ 950
  pub x1 : r.x1 ≤ 950
  pub y0 : r.y0 ≤ 950
  pub y1 : r.y1 ≤ 950

-- a box with an inside, within a room of this size
pub record IsBlockIn (room : Size) (b : Block) : Type 0 where
  pub x : (b.lo.x < b.hi.x) × (b.hi.x ≤ room.x)
  pub y : (b.lo.y < b.hi.y) × (b.hi.y ≤ room.y)
  pub z : (b.lo.z < b.hi.z) × (b.hi.z ≤ room.z)
  pub reflect : b.reflect ≤ 950

-- an intensity in its range, or one of so many files
abbrev pub IsShine : ℕ → Shine → Type 0
IsShine files (Even candela) = candela ≤ 10000000
IsShine files (File index) = index < files

-- half of the size on either side of the place is within the edge
abbrev pub HasMargin : ℕ → ℕ → ℕ → Type 0
HasMargin at size edge = (size ≤ 2 * at) × (2 * at + size ≤ 2 * edge)

-- a lamp within a room of this size that has so many files
pub record IsLampIn (room : Size) (files : ℕ) (l : Lamp) : Type 0 where
  pub x : (l.at.x ≤ room.x) × HasMargin l.at.x (extent_of l).x room.x
  pub y : (l.at.y ≤ room.y) × HasMargin l.at.y (extent_of l).y room.y
  pub z : (l.at.z ≤ room.z) × HasMargin l.at.z (extent_of l).z room.z
  pub shine : IsShine files l.shine
  pub turn : l.turn ≤ 359
  pub maintenance : l.maintenance ≤ 1000
  pub size_x : l.size_x ≤ 5000
  pub size_y : l.size_y ≤ 5000
  pub split_x : IsBetween 1 8 l.split_x
  pub split_y : IsBetween 1 8 l.split_y

pub record IsFileUse (f : FileUse) : Type 0 where
  pub name : is_name f.name ≡ true
  pub set : IsBetween 1 20 f.set

-- a grid of task points within a room of this size
pub record IsTaskIn (room : Size) (t : TaskGrid) : Type 0 where
  pub x : (t.from_x < t.to_x) × (t.to_x ≤ room.x)
  pub y : (t.from_y < t.to_y) × (t.to_y ≤ room.y)
  pub height : t.height ≤ room.z
  pub columns : 1 ≤ t.nx
  pub rows : 1 ≤ t.ny
  pub points : t.nx * t.ny ≤ 1024

pub record AreLimits (l : Limits) : Type 0 where
  pub average : IfSome l.average (λ n. n ≤ 1000000000)
  pub uniformity : IfSome l.uniformity (λ n. n ≤ 1000)

-- ---- the whole room

-- a room whose numbers are in the ranges of the layout, and that is within its limits
pub record IsAccepted (r : Room) : Type 0 where
  pub size : IsRoomSize r.size
  pub reflect : AreReflects r.reflect
  pub patch : IsBetween 50 50000 r.patch
  pub block_count : length r.blocks ≤ 64
  pub each_block : All (IsBlockIn r.size) r.blocks
  pub lamp_count : length r.lamps ≤ 256
  pub each_lamp : All (IsLampIn r.size (length r.files)) r.lamps
  pub file_count : length r.files ≤ 16
  pub each_file : All IsFileUse r.files
  pub task : IsTaskIn r.size r.task
  pub limits : AreLimits r.limits
