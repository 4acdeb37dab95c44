-- Lists that are filled row by row, and a row place by place: how loops grow them, and how long they are.
use Rattle.std.proofs.Common.{ℕ, zero, suc, ◌+◌, ◌*◌, ◌≤◌, ◌≡◌, List, [], ◌∷◌, ◌++◌, map, length, refl, ap, ◌∙◌, arith, add-one, append_assoc, length-append}
use Rattle.std.specs.List.{flat_map}
use Rattle.patch_mesh.specs.Cuts.{below}
use Rattle.patch_mesh.proofs.Lists.{map-below, flat-below}

-- the first n rows, of so many columns each
abbrev pub first_rows : {X : Type 0} → (ℕ → ℕ → X) → ℕ → ℕ → List X
first_rows f columns n = flat_map (λ j. map (f j) (below columns)) (below n)

pub rows_more : {X : Type 0} (f : ℕ → ℕ → X) (columns n : ℕ)
    → first_rows f columns (suc n) ≡ first_rows f columns n ++ map (f n) (below columns)
rows_more f columns n = flat-below (λ j. map (f j) (below columns)) n

-- ---- what loops keep

pub row_step : {X : Type 0} (old now new : List X) (p : X) (f : ℕ → X) (n : ℕ) → now ≡ old ++ map f (below n) → p ≡ f n
    → new ≡ now ++ p ∷ [] → new ≡ old ++ map f (below (n + 1))
row_step old now new p f n so_far is pushed =
    rw (add-one n, map-below f n, ← append_assoc old (map f (below n)) (f n ∷ []), ← so_far, ← is) pushed

pub row_done : {X : Type 0} (old now : List X) (f : ℕ → X) (n columns : ℕ) → now ≡ old ++ map f (below n) → columns ≤ n → n ≤ columns
    → now ≡ old ++ map f (below columns)
row_done old now f n columns so_far g h = let e : n ≡ columns = omega arith in so_far ∙ ap (λ (k : ℕ). old ++ map f (below k)) e

pub rows_step : {X : Type 0} (old now new : List X) (f : ℕ → ℕ → X) (columns n : ℕ) → now ≡ old ++ first_rows f columns n
    → new ≡ now ++ map (f n) (below columns) → new ≡ old ++ first_rows f columns (n + 1)
rows_step old now new f columns n so_far put =
    rw (add-one n, rows_more f columns n, ← append_assoc old (first_rows f columns n) (map (f n) (below columns)), ← so_far) put

pub rows_done : {X : Type 0} (old now : List X) (f : ℕ → ℕ → X) (columns n rows : ℕ) → now ≡ old ++ first_rows f columns n
    → rows ≤ n → n ≤ rows
    → now ≡ old ++ first_rows f columns rows
rows_done old now f columns n rows so_far g h = let e : n ≡ rows = omega arith in so_far ∙ ap (λ (k : ℕ). old ++ first_rows f columns k) e

-- ---- how long they are

length-row : {X : Type 0} (f : ℕ → X) (n : ℕ) → length (map f (below n)) ≡ n
length-row f zero = refl
length-row f (suc n) =
    ap length (map-below f n) ∙ length-append (map f (below n)) (f n ∷ []) ∙ (let h = length-row f n in omega (arith, h))

pub length-rows : {X : Type 0} (f : ℕ → ℕ → X) (columns n : ℕ) → length (first_rows f columns n) ≡ columns * n
length-rows f columns zero = omega arith
length-rows f columns (suc n) =
    let h = length-rows f columns n in let g = length-row (f n) columns in
    ap length (rows_more f columns n) ∙ length-append (first_rows f columns n) (map (f n) (below columns)) ∙ omega (arith, h, g)
