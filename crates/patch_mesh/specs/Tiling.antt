-- The parts of a surface tile it.
use Rattle.std.specs.Prelude.{ℕ, ◌+◌, ◌*◌, ◌<◌, ◌≤◌, ◌≡◌, ◌⊎◌}
use Rattle.std.specs.List.{All, sum_by}
use Rattle.room_layout.specs.Accepted.{IsAccepted}
use Rattle.room_layout.specs.declared.room.Room.{Room}
use Rattle.patch_mesh.specs.declared.surface.Surface.{Surface}
use Rattle.patch_mesh.specs.declared.tiling.Tiling.{Tiling}
use Rattle.patch_mesh.specs.declared.patch.Patch.{Patch}
use Rattle.patch_mesh.specs.Cuts.{cut}
use Rattle.patch_mesh.specs.Surfaces.{first_edge, second_edge}
use Rattle.patch_mesh.specs.Patches.{tiling_of, tiling_patches, tilings}

-- k parts fill an edge without gap and overlap; none is empty, and none is longer than `longest`
pub record TileEdge (longest edge k : ℕ) : Type 0 where
  pub begin : cut edge k 0 ≡ 0
  pub finish : cut edge k k ≡ edge
  pub some : (i : ℕ) → i < k → cut edge k i < cut edge k (i + 1)
  pub short : (i : ℕ) → i < k → cut edge k (i + 1) ≤ cut edge k i + longest

-- two parts of an edge have no inside in common
abbrev pub AreDistinct : ℕ → ℕ → ℕ → ℕ → Type 0
AreDistinct edge k i j = (cut edge k (i + 1) ≤ cut edge k j) ⊎ (cut edge k (j + 1) ≤ cut edge k i)

abbrev pub area_of : Patch → ℕ
area_of p = p.area

pub record Tiles (longest : ℕ) (t : Tiling) : Type 0 where
  pub columns : TileEdge longest (first_edge t.surface) t.columns
  pub rows : TileEdge longest (second_edge t.surface) t.rows
  -- two patches in different places are apart along one of the axes
  pub apart : (j i b a : ℕ) → ((i ≡ a) × (j ≡ b) → ⊥) → AreDistinct (first_edge t.surface) t.columns i a ⊎ AreDistinct (second_edge t.surface) t.rows j b
  pub areas : sum_by area_of (tiling_patches t) ≡ first_edge t.surface * second_edge t.surface

-- in an accepted room every surface is tiled by its patches
abbrev pub RoomIsTiled : Type 0
RoomIsTiled = (r : Room) → IsAccepted r → All (Tiles r.patch) (tilings r)

-- so is every surface with an inside, however long its edges and those of its patches
abbrev pub PatchesTile : Type 0
PatchesTile = (longest : ℕ) (s : Surface) → 1 ≤ longest → 1 ≤ first_edge s → 1 ≤ second_edge s → Tiles longest (tiling_of longest s)
