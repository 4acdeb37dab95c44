-- The surfaces, patches and task points of an accepted room lie in it.
use Rattle.std.proofs.Common.{ℕ, ◌+◌, ◌-◌, ◌*◌, ◌≤◌, ◌<◌, ◌≡◌, List, [], ◌∷◌, ◌++◌, map, length, take, refl, arith, subst, sym, ap, ◌∙◌, pos, length-append, ℤ, negsuc, ◌≤ℤ◌}
use Rattle.std.proofs.lemmas.List.{take_all, length-map}
use Rattle.std.specs.List.{All, flat_map}
use Rattle.std.proofs.Math.Nat.{mul-le-mul, mul-pos}
use Rattle.std.proofs.lemmas.Int.{ints}
use Rattle.std.proofs.lemmas.List.Elements.{All-nil, All-cons, All-append, All-same, All-weaker}
use Rattle.room_layout.specs.declared.geometry.Size.{Size}
use Rattle.room_layout.specs.declared.geometry.Point.{Point}
use Rattle.room_layout.specs.declared.geometry.Face.{Face}
use Rattle.room_layout.specs.declared.geometry.Face.TheVariants.{Up, Down, East, West}
use Rattle.room_layout.specs.declared.room.Block.{Block}
use Rattle.room_layout.specs.declared.room.Room.{Room}
use Rattle.room_layout.specs.Across.{across}
use Rattle.room_layout.specs.Place.{point_of, place_of_size, task_place, middle_of_part}
use Rattle.room_layout.specs.Accepted.{IsAccepted, IsBlockIn, IsRoomSize}
use Rattle.patch_mesh.specs.declared.surface.Surface.{Surface}
use Rattle.patch_mesh.specs.declared.tiling.Tiling.{Tiling}
use Rattle.patch_mesh.specs.declared.patch.Patch.{Patch}
use Rattle.patch_mesh.specs.declared.patch.TaskPoint.{TaskPoint}
use Rattle.patch_mesh.specs.Bounds.{IsAlong, IsPointIn, IsPatchIn, IsSurfaceIn, IsCutSurface, IsTaskPointIn, largest_room}
use Rattle.patch_mesh.specs.Cuts.{cut, part_length, below}
use Rattle.patch_mesh.specs.Surfaces.{at, room_surfaces, block_surfaces, surfaces, moved_along, first_axis, second_axis, first_edge, second_edge, extent}
use Rattle.patch_mesh.specs.Patches.{tiling_of, patch_at, tiling_patches, tilings, patches}
use Rattle.patch_mesh.specs.TaskPoints as points
use Rattle.patch_mesh.proofs.CutLaws.{parts_few, parts_some, cut_within, cut_rises, middle_within}
use Rattle.patch_mesh.specs.Tiling.{Tiles, RoomIsTiled}
use Rattle.patch_mesh.proofs.PatchLaws.{tile}
use Rattle.patch_mesh.proofs.Lists.{all_below, all_flat_below, all_map, all_flat}

-- ---- surfaces

pub block_in_largest : (room : Size) (b : Block) → IsRoomSize room → IsBlockIn room b → IsBlockIn largest_room b
block_in_largest room b r h = let x = h.x in let y = h.y in let z = h.z in record {
  x = (h.x.0, omega (arith, r.x.1));
  y = (h.y.0, omega (arith, r.y.1));
  z = (h.z.0, omega (arith, r.z.1));
  reflect = h.reflect;
}

pub blocks_in_largest : (r : Room) (bs : List Block) → IsAccepted r → bs ≡ r.blocks → All (IsBlockIn largest_room) bs
blocks_in_largest r bs h e = All-same (IsBlockIn largest_room) bs r.blocks e
    (All-weaker (IsBlockIn r.size) (IsBlockIn largest_room) (λ b g. block_in_largest r.size b h.size g) r.blocks h.each_block)

surface_in_largest : (room : Size) (s : Surface) → IsRoomSize room → IsSurfaceIn room s → IsSurfaceIn largest_room s
surface_in_largest room s r h = let x = h.x in let y = h.y in let z = h.z in record {
  x = (h.x.0, omega (arith, r.x.1));
  y = (h.y.0, omega (arith, r.y.1));
  z = (h.z.0, omega (arith, r.z.1));
  first = h.first;
  second = h.second;
  reflect = h.reflect;
}

six : (P : Surface → Type 0) (a b c d e f : Surface) → P a → P b → P c → P d → P e → P f → All P (a ∷ b ∷ c ∷ d ∷ e ∷ f ∷ [])
six P a b c d e f pa pb pc pd pe pf =
    All-cons P a (b ∷ c ∷ d ∷ e ∷ f ∷ []) pa (All-cons P b (c ∷ d ∷ e ∷ f ∷ []) pb (All-cons P c (d ∷ e ∷ f ∷ []) pc
    (All-cons P d (e ∷ f ∷ []) pd (All-cons P e (f ∷ []) pe (All-cons P f [] pf (All-nil P))))))

-- a surface that spans its room, or lies in it, along each axis
made : (room : Size) (s : Surface) → (s.lo.x ≤ s.hi.x) × (s.hi.x ≤ room.x) → (s.lo.y ≤ s.hi.y) × (s.hi.y ≤ room.y) → (s.lo.z ≤ s.hi.z) × (s.hi.z ≤ room.z)
    → 1 ≤ first_edge s → 1 ≤ second_edge s → s.reflect ≤ 950 → IsSurfaceIn room s
made room s x y z first second reflect = record { x = x; y = y; z = z; first = first; second = second; reflect = reflect }

pub room_surfaces_fit : (r : Room) → IsAccepted r → All (IsSurfaceIn r.size) (room_surfaces r)
room_surfaces_fit r h = let x = h.size.x in let y = h.size.y in let z = h.size.z in let reflect = h.reflect in
    six (IsSurfaceIn r.size) _ _ _ _ _ _
    (made r.size _ (omega arith, omega arith) (omega arith, omega arith) (omega arith, omega arith) (omega arith) (omega arith) reflect.floor)
    (made r.size _ (omega arith, omega arith) (omega arith, omega arith) (omega arith, omega arith) (omega arith) (omega arith) reflect.ceiling)
    (made r.size _ (omega arith, omega arith) (omega arith, omega arith) (omega arith, omega arith) (omega arith) (omega arith) reflect.x0)
    (made r.size _ (omega arith, omega arith) (omega arith, omega arith) (omega arith, omega arith) (omega arith) (omega arith) reflect.x1)
    (made r.size _ (omega arith, omega arith) (omega arith, omega arith) (omega arith, omega arith) (omega arith) (omega arith) reflect.y0)
    (made r.size _ (omega arith, omega arith) (omega arith, omega arith) (omega arith, omega arith) (omega arith) (omega arith) reflect.y1)

block_surfaces_fit : (room : Size) (b : Block) → IsBlockIn room b → All (IsSurfaceIn room) (block_surfaces b)
block_surfaces_fit room b h = let x = h.x in let y = h.y in let z = h.z in
    six (IsSurfaceIn room) _ _ _ _ _ _
    (made room _ (omega arith, omega arith) (omega arith, omega arith) (omega arith, omega arith) (omega arith) (omega arith) h.reflect)
    (made room _ (omega arith, omega arith) (omega arith, omega arith) (omega arith, omega arith) (omega arith) (omega arith) h.reflect)
    (made room _ (omega arith, omega arith) (omega arith, omega arith) (omega arith, omega arith) (omega arith) (omega arith) h.reflect)
    (made room _ (omega arith, omega arith) (omega arith, omega arith) (omega arith, omega arith) (omega arith) (omega arith) h.reflect)
    (made room _ (omega arith, omega arith) (omega arith, omega arith) (omega arith, omega arith) (omega arith) (omega arith) h.reflect)
    (made room _ (omega arith, omega arith) (omega arith, omega arith) (omega arith, omega arith) (omega arith) (omega arith) h.reflect)

surfaces_fit : (r : Room) → IsAccepted r → All (IsSurfaceIn r.size) (surfaces r)
unfolding surfaces
surfaces_fit r h = All-append (IsSurfaceIn r.size) (room_surfaces r) (flat_map block_surfaces r.blocks) (room_surfaces_fit r h)
    (all_flat (IsBlockIn r.size) (IsSurfaceIn r.size) block_surfaces (λ b g. block_surfaces_fit r.size b g) r.blocks h.each_block)

-- ---- surfaces that are cut

record IsFit (room : Size) (t : Tiling) : Type 0 where
  surface : IsSurfaceIn room t.surface
  columns : (1 ≤ t.columns) × (t.columns ≤ first_edge t.surface)
  rows : (1 ≤ t.rows) × (t.rows ≤ second_edge t.surface)

tiling_fits : (room : Size) (longest : ℕ) (s : Surface) → 1 ≤ longest → IsSurfaceIn room s → IsFit room (tiling_of longest s)
unfolding tiling_of
tiling_fits room longest s p h = record {
  surface = h;
  columns = (parts_some longest (first_edge s) p h.first, parts_few longest (first_edge s) p h.first);
  rows = (parts_some longest (second_edge s) p h.second, parts_few longest (second_edge s) p h.second);
}

tilings_fit : (r : Room) → IsAccepted r → All (IsFit r.size) (tilings r)
unfolding tilings
tilings_fit r h = let p : 1 ≤ r.patch = omega (arith, h.patch.0) in
    all_map (IsSurfaceIn r.size) (IsFit r.size) (tiling_of r.patch) (λ s g. tiling_fits r.size r.patch s p g) (surfaces r) (surfaces_fit r h)

first_edge_most : (room : Size) (s : Surface) → IsRoomSize room → IsSurfaceIn room s → first_edge s ≤ 100000
first_edge_most room s r h = most s.face
  where
    most : (f : Face) → first_axis f (extent s) ≤ 100000
    most East = omega (arith, h.y.1, r.y.1)
    most West = omega (arith, h.y.1, r.y.1)
    most _ = omega (arith, h.x.1, r.x.1)

second_edge_most : (room : Size) (s : Surface) → IsRoomSize room → IsSurfaceIn room s → second_edge s ≤ 100000
second_edge_most room s r h = most s.face
  where
    most : (f : Face) → second_axis f (extent s) ≤ 100000
    most Up = omega (arith, h.y.1, r.y.1)
    most Down = omega (arith, h.y.1, r.y.1)
    most _ = omega (arith, h.z.1, r.z.1)

cut_of_fit : (room : Size) (t : Tiling) → IsRoomSize room → IsFit room t → IsCutSurface t
cut_of_fit room t r h = let a = first_edge_most room t.surface r h.surface in let b = second_edge_most room t.surface r h.surface in record {
  surface = surface_in_largest room t.surface r h.surface;
  columns = omega (arith, h.columns.1, a);
  rows = omega (arith, h.rows.1, b);
}

pub made_cut : (r : Room) (v : List Tiling) → IsAccepted r → v ≡ tilings r → All IsCutSurface v
made_cut r v h e = subst (λ (xs : List Tiling). All IsCutSurface xs) (sym e)
    (All-weaker (IsFit r.size) IsCutSurface (λ t g. cut_of_fit r.size t h.size g) (tilings r) (tilings_fit r h))

-- the surfaces of the room and of its boxes, of which there are six each
length-six : (f : Block → List Surface) → ((b : Block) → length (f b) ≡ 6) → (bs : List Block) → length (flat_map f bs) ≡ 6 * length bs
length-six f six [] = refl
length-six f six (b ∷ bs) = let g = six b in let h = length-six f six bs in length-append (f b) (flat_map f bs) ∙ omega (arith, g, h)

tilings_few : (r : Room) → IsAccepted r → length (tilings r) ≤ 2048
unfolding tilings surfaces
tilings_few r h =
    let few = h.block_count in
    let one = length-map (room_surfaces r ++ flat_map block_surfaces r.blocks) (tiling_of r.patch) in
    let two = length-append (room_surfaces r) (flat_map block_surfaces r.blocks) in
    let three = length-six block_surfaces (λ b. refl) r.blocks in
    omega (arith, one, two, three, few)

pub made_few : (r : Room) (v : List Tiling) → IsAccepted r → v ≡ tilings r → length v ≤ 2048
made_few r v h e = let few = tilings_few r h in rw e few

pub tilings_made : (r : Room) (v : List Tiling) (bs : List Block) (k : ℕ) → bs ≡ r.blocks → length bs ≤ k
    → v ≡ map (tiling_of r.patch) (room_surfaces r ++ flat_map block_surfaces (take k bs)) → v ≡ tilings r
unfolding tilings surfaces
tilings_made r v bs k same over e =
    e ∙ ap (λ (xs : List Block). map (tiling_of r.patch) (room_surfaces r ++ flat_map block_surfaces xs)) (take_all k bs over ∙ same)

-- ---- patches

along : (edge n : ℕ) → n ≤ 2 * edge → IsAlong edge (pos n)
along edge n h = (omega (arith, ints), omega (arith, ints))

-- a point of a surface of its room
centre_in : (room lo hi : Size) (f : Face) (a b : ℕ) → lo.x ≤ hi.x → lo.y ≤ hi.y → lo.z ≤ hi.z → hi.x ≤ room.x → hi.y ≤ room.y → hi.z ≤ room.z
    → a ≤ 2 * first_axis f (at (hi.x - lo.x) (hi.y - lo.y) (hi.z - lo.z)) → b ≤ 2 * second_axis f (at (hi.x - lo.x) (hi.y - lo.y) (hi.z - lo.z))
    → IsPointIn room (point_of (moved_along f (place_of_size lo) a b))
unfolding across
centre_in room lo hi Up a b lx ly lz hx hy hz g h =
    record { x = along room.x _ (omega arith); y = along room.y _ (omega arith); z = along room.z _ (omega arith) }
centre_in room lo hi _ a b lx ly lz hx hy hz g h =
    record { x = along room.x _ (omega arith); y = along room.y _ (omega arith); z = along room.z _ (omega arith) }

part_some : (edge k i : ℕ) → 1 ≤ k → k ≤ edge → 1 ≤ part_length edge k i
part_some edge k i p h = let l = cut_rises edge k i p h in omega (arith, l)

part_most : (edge k i : ℕ) → i < k → edge ≤ 100000 → part_length edge k i ≤ 100000
part_most edge k i l h = let g : cut edge k (i + 1) ≤ edge = cut_within edge k (i + 1) (omega arith) in omega (arith, g)

ends_within : (edge k i : ℕ) → i < k → cut edge k i + cut edge k (i + 1) ≤ 2 * edge
ends_within edge k i l =
    let g = cut_within edge k i (omega arith) in let h = cut_within edge k (i + 1) (omega arith) in omega (arith, g, h)

patch_fits : (room : Size) (t : Tiling) (j i : ℕ) → IsRoomSize room → IsFit room t → j < t.rows → i < t.columns → IsPatchIn room (patch_at t j i)
unfolding patch_at
patch_fits room t j i r h row column =
    let s = h.surface in
    let across = first_edge_most room t.surface r s in
    let up = second_edge_most room t.surface r s in
    record {
      centre = centre_in room t.surface.lo t.surface.hi t.surface.face _ _ s.x.0 s.y.0 s.z.0 s.x.1 s.y.1 s.z.1
          (ends_within (first_edge t.surface) t.columns i column) (ends_within (second_edge t.surface) t.rows j row);
      some = mul-pos (part_some (first_edge t.surface) t.columns i h.columns.0 h.columns.1) (part_some (second_edge t.surface) t.rows j h.rows.0 h.rows.1);
      area = mul-le-mul (part_most (first_edge t.surface) t.columns i column across) (part_most (second_edge t.surface) t.rows j row up);
      reflect = s.reflect;
    }

tiling_patches_fit : (room : Size) (t : Tiling) → IsRoomSize room → IsFit room t → All (IsPatchIn room) (tiling_patches t)
unfolding tiling_patches
tiling_patches_fit room t r h = all_flat_below (IsPatchIn room) (λ j. map (patch_at t j) (below t.columns)) t.rows
    (λ j row. all_below (IsPatchIn room) (patch_at t j) t.columns (λ i column. patch_fits room t j i r h row column))

pub patches_fit : (r : Room) (v : List Patch) → IsAccepted r → v ≡ patches r → All (IsPatchIn r.size) v
unfolding patches
patches_fit r v h e = subst (λ (xs : List Patch). All (IsPatchIn r.size) xs) (sym e)
    (all_flat (IsFit r.size) (IsPatchIn r.size) tiling_patches (λ t g. tiling_patches_fit r.size t h.size g) (tilings r) (tilings_fit r h))

-- ---- task points

middle_in : (from to edge n i : ℕ) → from < to → to ≤ edge → i < n → middle_of_part from to n i ≤ 2 * edge
middle_in from to edge n i p h l = let g = middle_within (to - from) n i l in omega (arith, g)

point_fits : (r : Room) (j i : ℕ) → IsAccepted r → j < r.task.ny → i < r.task.nx → IsTaskPointIn r.size (points.task_point r j i)
unfolding points.task_point task_place
point_fits r j i h row column = let t = h.task in record {
  at = record {
    x = along r.size.x _ (middle_in r.task.from_x r.task.to_x r.size.x r.task.nx i t.x.0 t.x.1 column);
    y = along r.size.y _ (middle_in r.task.from_y r.task.to_y r.size.y r.task.ny j t.y.0 t.y.1 row);
    z = along r.size.z _ (let height = t.height in omega (arith, height));
  };
}

task_points_fit : (r : Room) → IsAccepted r → All (IsTaskPointIn r.size) (points.task_points r)
unfolding points.task_points
task_points_fit r h = all_flat_below (IsTaskPointIn r.size) (λ j. map (points.task_point r j) (below r.task.nx)) r.task.ny
    (λ j row. all_below (IsTaskPointIn r.size) (points.task_point r j) r.task.nx (λ i column. point_fits r j i h row column))

pub points_fit : (r : Room) (v : List TaskPoint) → IsAccepted r → v ≡ points.task_points r → All (IsTaskPointIn r.size) v
points_fit r v h e = subst (λ (xs : List TaskPoint). All (IsTaskPointIn r.size) xs) (sym e) (task_points_fit r h)

-- ---- in the largest room

-- a number at most twice an edge of 100 m
le_trans_z : (z : ℤ) (edge : ℕ) → edge ≤ 100000 → z ≤ℤ pos (2 * edge) → z ≤ℤ pos (2 * 100000)
le_trans_z (pos n) edge h g = omega (arith, ints)
le_trans_z (negsuc n) edge h g = omega (arith, ints)

point_reaches : (room : Size) (p : Point) → IsRoomSize room → IsPointIn room p → IsPointIn largest_room p
point_reaches room p r h = record { x = reach room.x p.x r.x.1 h.x; y = reach room.y p.y r.y.1 h.y; z = reach room.z p.z r.z.1 h.z }
  where
    reach : (edge : ℕ) (z : ℤ) → edge ≤ 100000 → IsAlong edge z → IsAlong 100000 z
    reach edge z most (low, high) = (low, le_trans_z z edge most high)

patch_reaches : (room : Size) → IsRoomSize room → (p : Patch) → IsPatchIn room p → IsPatchIn largest_room p
patch_reaches room r p h = record { centre = point_reaches room p.centre r h.centre; some = h.some; area = h.area; reflect = h.reflect }

pub patches_reach : (r : Room) (v : List Patch) → IsAccepted r → v ≡ patches r → All (IsPatchIn largest_room) v
patches_reach r v h e = All-weaker (IsPatchIn r.size) (IsPatchIn largest_room) (patch_reaches r.size h.size) v (patches_fit r v h e)

pub points_reach : (r : Room) (v : List TaskPoint) → IsAccepted r → v ≡ points.task_points r → All (IsTaskPointIn largest_room) v
points_reach r v h e = All-weaker (IsTaskPointIn r.size) (IsTaskPointIn largest_room) (λ p g. record { at = point_reaches r.size p.at h.size g.at }) v (points_fit r v h e)

-- ---- tiled

pub room_tiled : RoomIsTiled
unfolding tilings
room_tiled r h = let p : 1 ≤ r.patch = omega (arith, h.patch.0) in
    all_map (IsSurfaceIn r.size) (Tiles r.patch) (tiling_of r.patch) (λ s g. tile r.patch s p g.first g.second) (surfaces r) (surfaces_fit r h)

pub ruleset blocks = (block_in_largest)
