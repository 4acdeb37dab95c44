-- How many patches surfaces have.
use Rattle.std.proofs.Common.{ℕ, ◌+◌, ◌*◌, ◌<◌, ◌≤◌, ◌≡◌, take, get_or, [], ◌∷◌, ◌++◌, List, length, ap, ◌∙◌, sym, arith, append-nil, length-append}
use Rattle.std.proofs.Math.Nat.{mul-le-mul}
use Rattle.std.proofs.lemmas.List.{take_more}
use Rattle.std.proofs.lemmas.List.Concat.{flat_map-append}
use Rattle.std.specs.List.{flat_map}
use Rattle.patch_mesh.specs.declared.tiling.Tiling.{Tiling}
use Rattle.patch_mesh.specs.declared.patch.Patch.{Patch}
use Rattle.patch_mesh.specs.Patches.{patch_at, tiling_patches}
use Rattle.patch_mesh.proofs.Rows.{length-rows}

length-tiling_patches : (t : Tiling) → length (tiling_patches t) ≡ t.columns * t.rows
unfolding tiling_patches
length-tiling_patches t = length-rows (patch_at t) t.columns t.rows

-- so many patches of one more surface
pub count_step : (f : Tiling → List Patch) (before : List Tiling) (t : Tiling) (n m : ℕ) → n ≡ length (flat_map f before) → length (f t) ≡ m
    → n + m ≡ length (flat_map f (before ++ t ∷ []))
count_step f before t n m so_far here =
    let e = ap length (flat_map-append f before (t ∷ []) ∙ ap (λ (ys : List Patch). flat_map f before ++ ys) (append-nil (f t))) in
    sym (e ∙ length-append (flat_map f before) (f t) ∙ omega (arith, so_far, here))

pub count_more : (ts : List Tiling) (i n : ℕ) (d : Tiling) → i < length ts → n ≡ length (flat_map tiling_patches (take i ts))
    → n + (get_or ts i d).columns * (get_or ts i d).rows ≡ length (flat_map tiling_patches (take (i + 1) ts))
count_more ts i n d h so_far =
    let t = get_or ts i d in
    count_step tiling_patches (take i ts) t n (t.columns * t.rows) so_far (length-tiling_patches t)
    ∙ ap (λ (xs : List Tiling). length (flat_map tiling_patches xs)) (sym (take_more ts i d h))

pub count_small : (n i columns rows : ℕ) → n ≤ i * 10000000000 → columns ≤ 100000 → rows ≤ 100000
    → n + columns * rows ≤ (i + 1) * 10000000000
count_small n i columns rows h a b = omega (arith, mul-le-mul {n₁ = columns} {m₁ = rows} {n₂ = 100000} {m₂ = 100000} a b)
