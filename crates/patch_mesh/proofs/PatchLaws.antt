-- The patches of a surface tile it.
use Rattle.std.proofs.Common.{ℕ, zero, suc, ◌+◌, ◌-◌, ◌*◌, ◌<◌, ◌≤◌, ◌≡◌, ◌⊎◌, inl, inr, [], ◌∷◌, map, ap, ◌∙◌, arith, add-one}
use Rattle.std.specs.List.{sum_by}
use Rattle.std.proofs.Math.Nat.{mul-sub, mul-le-mul_left}
use Rattle.std.proofs.lemmas.Bool.{cases_lt}
use Rattle.std.proofs.lemmas.List.Sums.{sum_by-append}
use Rattle.patch_mesh.specs.declared.tiling.Tiling.{Tiling}
use Rattle.patch_mesh.specs.Cuts.{parts, cut, part_length, below}
use Rattle.patch_mesh.specs.Surfaces.{first_edge, second_edge}
use Rattle.patch_mesh.specs.Patches.{tiling_of, patch_at, tiling_patches}
use Rattle.patch_mesh.specs.Tiling.{TileEdge, AreDistinct, area_of, PatchesTile}
use Rattle.patch_mesh.proofs.CutLaws.{parts_few, parts_some, parts_reach, cut_begin, cut_finish, cut_below, cut_rises, cut_short}
use Rattle.patch_mesh.proofs.Lists.{map-below}
use Rattle.patch_mesh.proofs.Rows.{first_rows, rows_more}

-- ---- one edge

pub edge_tiled : (longest edge : ℕ) → 1 ≤ longest → 1 ≤ edge → TileEdge longest edge (parts longest edge)
edge_tiled longest edge p q = let some = parts_some longest edge p q in record {
  begin = cut_begin edge (parts longest edge);
  finish = cut_finish edge (parts longest edge) some;
  some = λ i h. cut_rises edge (parts longest edge) i some (parts_few longest edge p q);
  short = λ i h. cut_short longest edge (parts longest edge) i some (parts_reach longest edge p);
}

parts_apart : (edge k i j : ℕ) → 1 ≤ k → (i ≡ j → ⊥) → AreDistinct edge k i j
parts_apart edge k i j p n = elim (cases_lt i j) [
  | inl l ↦ inl (cut_below edge k (i + 1) j p (omega arith))
  | inr g ↦ inr (cut_below edge k (j + 1) i p (let strict : j < i = elim (cases_lt j i) [ inl l ↦ l | inr h ↦ absurd (n (omega arith)) ] in omega arith))
]

patches_apart : (across columns up rows j i b a : ℕ) → 1 ≤ columns → 1 ≤ rows → ((i ≡ a) × (j ≡ b) → ⊥) → AreDistinct across columns i a ⊎ AreDistinct up rows j b
patches_apart across columns up rows j i b a p q n = elim (cases_lt i a) [
  | inl l ↦ inl (parts_apart across columns i a p (λ e. omega (arith, e)))
  | inr g ↦ elim (cases_lt a i) [
    | inl l ↦ inl (parts_apart across columns i a p (λ e. omega (arith, e)))
    | inr h ↦ inr (parts_apart up rows j b q (λ e. n (omega arith, e)))
  ]
]

-- ---- areas

-- the part of a strip up to one place, and from there to the next
strip_more : (a b w : ℕ) → a ≤ b → a * w + (b - a) * w ≡ b * w
strip_more a b w h = omega (arith, mul-sub w b a, mul-le-mul_left w h)

zeroed : (a b : ℕ) → a + (0 + b) ≡ a + b
zeroed a b = omega arith

turned : (w a b : ℕ) → w * a + w * b ≡ a * w + b * w
turned w a b = omega arith

mul-comm' : (a b : ℕ) → a * b ≡ b * a
mul-comm' a b = omega arith

-- of the first n patches of row j
area-row : (t : Tiling) (j n : ℕ) → 1 ≤ t.columns
    → sum_by area_of (map (patch_at t j) (below n)) ≡ cut (first_edge t.surface) t.columns n * part_length (second_edge t.surface) t.rows j
unfolding patch_at
area-row t j zero p = let e = cut_begin (first_edge t.surface) t.columns in rw e (omega arith)
area-row t j (suc n) p =
    ap (sum_by area_of) (map-below (patch_at t j) n) ∙ sum_by-append area_of (map (patch_at t j) (below n)) (patch_at t j n ∷ [])
    ∙ (let h = area-row t j n p in
    let g = strip_more (cut (first_edge t.surface) t.columns n) (cut (first_edge t.surface) t.columns (n + 1)) (part_length (second_edge t.surface) t.rows j) (cut_below (first_edge t.surface) t.columns n (n + 1) p (omega arith)) in
    let e : cut (first_edge t.surface) t.columns (n + 1) ≡ cut (first_edge t.surface) t.columns (suc n) = ap (cut (first_edge t.surface) t.columns) (add-one n) in
    rw h (zeroed _ _ ∙ g ∙ ap (λ (z : ℕ). z * part_length (second_edge t.surface) t.rows j) e))

area-whole_row : (t : Tiling) (j : ℕ) → 1 ≤ t.columns
    → sum_by area_of (map (patch_at t j) (below t.columns)) ≡ first_edge t.surface * part_length (second_edge t.surface) t.rows j
area-whole_row t j p = area-row t j t.columns p ∙ ap (λ (z : ℕ). z * part_length (second_edge t.surface) t.rows j) (cut_finish (first_edge t.surface) t.columns p)

-- of the first n rows
area-rows : (t : Tiling) (n : ℕ) → 1 ≤ t.columns → 1 ≤ t.rows
    → sum_by area_of (first_rows (patch_at t) t.columns n) ≡ first_edge t.surface * cut (second_edge t.surface) t.rows n
area-rows t zero p q = let e = cut_begin (second_edge t.surface) t.rows in rw e (omega arith)
area-rows t (suc n) p q =
    let h = area-rows t n p q in
    let g = strip_more (cut (second_edge t.surface) t.rows n) (cut (second_edge t.surface) t.rows (n + 1)) (first_edge t.surface) (cut_below (second_edge t.surface) t.rows n (n + 1) q (omega arith)) in
    let e : cut (second_edge t.surface) t.rows (n + 1) ≡ cut (second_edge t.surface) t.rows (suc n) = ap (cut (second_edge t.surface) t.rows) (add-one n) in
    ap (sum_by area_of) (rows_more (patch_at t) t.columns n)
    ∙ sum_by-append area_of (first_rows (patch_at t) t.columns n) (map (patch_at t n) (below t.columns))
    ∙ rw (h, area-whole_row t n p) (turned _ _ _ ∙ g ∙ ap (λ (z : ℕ). z * first_edge t.surface) e ∙ mul-comm' _ _)

area-tiling : (t : Tiling) → 1 ≤ t.columns → 1 ≤ t.rows → sum_by area_of (tiling_patches t) ≡ first_edge t.surface * second_edge t.surface
unfolding tiling_patches
area-tiling t p q = area-rows t t.rows p q ∙ ap (λ (z : ℕ). first_edge t.surface * z) (cut_finish (second_edge t.surface) t.rows q)

pub tile : PatchesTile
unfolding tiling_of
tile longest s p a b =
    let columns = parts_some longest (first_edge s) p a in
    let rows = parts_some longest (second_edge s) p b in
    record {
      columns = edge_tiled longest (first_edge s) p a;
      rows = edge_tiled longest (second_edge s) p b;
      apart = λ j i b a n. patches_apart (first_edge s) (parts longest (first_edge s)) (second_edge s) (parts longest (second_edge s)) j i b a columns rows n;
      areas = area-tiling (tiling_of longest s) columns rows;
    }
