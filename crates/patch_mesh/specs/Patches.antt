-- The patches of a room: each surface is cut along its two axes, and its patches go by the second axis, then by the first.
use Rattle.std.specs.Prelude.{ℕ, ◌+◌, ◌*◌, List, map}
use Rattle.std.specs.List.{flat_map}
use Rattle.room_layout.specs.Place.{point_of, place_of_size}
use Rattle.room_layout.specs.declared.room.Room.{Room}
use Rattle.patch_mesh.specs.declared.surface.Surface.{Surface}
use Rattle.patch_mesh.specs.declared.tiling.Tiling.{Tiling}
use Rattle.patch_mesh.specs.declared.patch.Patch.{Patch}
use Rattle.patch_mesh.specs.Cuts.{parts, cut, part_length, below}
use Rattle.patch_mesh.specs.Surfaces.{surfaces, first_edge, second_edge, moved_along}

-- a surface cut into columns along its first axis and rows along its second, no part longer than `longest`
unfoldable pub tiling_of : ℕ → Surface → Tiling
tiling_of longest s = record { surface = s; columns = parts longest (first_edge s); rows = parts longest (second_edge s) }

-- the patch in column i of row j; the two ends of a part in mm add up to its middle in half mm
unfoldable pub patch_at : Tiling → ℕ → ℕ → Patch
patch_at t j i =
    let s = t.surface in
    let across = first_edge s in
    let up = second_edge s in
    record {
      centre = point_of (moved_along s.face (place_of_size s.lo) (cut across t.columns i + cut across t.columns (i + 1)) (cut up t.rows j + cut up t.rows (j + 1)));
      face = s.face;
      area = part_length across t.columns i * part_length up t.rows j;
      reflect = s.reflect;
    }

-- the patches of a surface that is cut, row by row
unfoldable pub tiling_patches : Tiling → List Patch
tiling_patches t = flat_map (λ j. map (patch_at t j) (below t.columns)) (below t.rows)

unfoldable pub tilings : Room → List Tiling
tilings room = map (tiling_of room.patch) (surfaces room)

-- the patches of a room: surface by surface, row by row
unfoldable pub patches : Room → List Patch
patches room = flat_map tiling_patches (tilings room)
