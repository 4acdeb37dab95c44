-- The surfaces of a room and of its boxes: rectangles from `lo` to `hi`, in mm, in the order in which they are cut into patches.
use Rattle.std.specs.Prelude.{ℕ, ◌-◌, ◌+◌, List, [], ◌∷◌, ◌++◌}
use Rattle.std.specs.List.{flat_map}
use Rattle.room_layout.specs.Across.{across}
use Rattle.room_layout.specs.Place.{Place}
use Rattle.room_layout.specs.declared.geometry.Size.{Size}
use Rattle.room_layout.specs.declared.geometry.Face.{Face}
use Rattle.room_layout.specs.declared.geometry.Face.TheVariants.{Up, Down, East, West, North, South}
use Rattle.room_layout.specs.declared.room.Block.{Block}
use Rattle.room_layout.specs.declared.room.Room.{Room}
use Rattle.patch_mesh.specs.declared.surface.Surface.{Surface}

abbrev pub at : ℕ → ℕ → ℕ → Size
at a b c = record { x = a; y = b; z = c }

-- floor, ceiling, and the walls at either end of x and of y, which face inward
abbrev pub room_surfaces : Room → List Surface
room_surfaces room =
    let s = room.size in
    let r = room.reflect in
    record { face = Up; lo = at 0 0 0; hi = at s.x s.y 0; reflect = r.floor }
    ∷ record { face = Down; lo = at 0 0 s.z; hi = at s.x s.y s.z; reflect = r.ceiling }
    ∷ record { face = East; lo = at 0 0 0; hi = at 0 s.y s.z; reflect = r.x0 }
    ∷ record { face = West; lo = at s.x 0 0; hi = at s.x s.y s.z; reflect = r.x1 }
    ∷ record { face = North; lo = at 0 0 0; hi = at s.x 0 s.z; reflect = r.y0 }
    ∷ record { face = South; lo = at 0 s.y 0; hi = at s.x s.y s.z; reflect = r.y1 }
    ∷ []

-- bottom, top, and the sides at either end of x and of y, which face outward
abbrev pub block_surfaces : Block → List Surface
block_surfaces b =
    let l = b.lo in
    let h = b.hi in
    record { face = Down; lo = at l.x l.y l.z; hi = at h.x h.y l.z; reflect = b.reflect }
    ∷ record { face = Up; lo = at l.x l.y h.z; hi = at h.x h.y h.z; reflect = b.reflect }
    ∷ record { face = West; lo = at l.x l.y l.z; hi = at l.x h.y h.z; reflect = b.reflect }
    ∷ record { face = East; lo = at h.x l.y l.z; hi = at h.x h.y h.z; reflect = b.reflect }
    ∷ record { face = South; lo = at l.x l.y l.z; hi = at h.x l.y h.z; reflect = b.reflect }
    ∷ record { face = North; lo = at l.x h.y l.z; hi = at h.x h.y h.z; reflect = b.reflect }
    ∷ []

unfoldable pub surfaces : Room → List Surface
surfaces room = room_surfaces room ++ flat_map block_surfaces room.blocks

-- ---- the two axes across a face, in the order x, y, z

-- y of a face that looks East or West, else x
abbrev pub first_axis : Face → Size → ℕ
first_axis East s = s.y
first_axis West s = s.y
first_axis _ s = s.x

-- y of a face that looks up or down, else z
abbrev pub second_axis : Face → Size → ℕ
second_axis Up s = s.y
second_axis Down s = s.y
second_axis _ s = s.z

-- the place that lies so far from another along the first axis, and so far along the second
abbrev pub moved_along : Face → Place → ℕ → ℕ → Place
moved_along face p a b =
    let way = across face a b 0 in
    record { x = p.x + way.x; y = p.y + way.y; z = p.z + way.z }

-- the edges of a surface along its two axes
abbrev pub extent : Surface → Size
extent s = at (s.hi.x - s.lo.x) (s.hi.y - s.lo.y) (s.hi.z - s.lo.z)

abbrev pub first_edge : Surface → ℕ
first_edge s = first_axis s.face (extent s)

abbrev pub second_edge : Surface → ℕ
second_edge s = second_axis s.face (extent s)
