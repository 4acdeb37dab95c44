-- Lists that are made of the numbers below n.
use Rattle.std.proofs.Common.{ℕ, zero, suc, ◌+◌, ◌<◌, ◌≡◌, List, [], ◌∷◌, ◌++◌, map, refl, ap, ◌∙◌, arith, add-zero, append-nil}
use Rattle.std.specs.List.{range_with_len, flat_map, All}
use Rattle.std.proofs.lemmas.List.Elements.{All-nil, All-push, All-same, All-append, All-head, All-tail, All-cons}
use Rattle.std.proofs.lemmas.List.Concat.{flat_map-append}
use Rattle.patch_mesh.specs.Cuts.{below}

range_more : (a n : ℕ) → range_with_len a (suc n) ≡ range_with_len a n ++ (a + n) ∷ []
range_more a zero = rw (add-zero a) refl
range_more a (suc n) = let e : a + 1 + n ≡ a + suc n = omega arith in
    ap (λ (xs : List ℕ). a ∷ xs) (range_more (a + 1) n ∙ ap (λ (k : ℕ). range_with_len (a + 1) n ++ k ∷ []) e)

pub below_more : (n : ℕ) → below (suc n) ≡ below n ++ n ∷ []
below_more n = let e : 0 + n ≡ n = omega arith in range_more 0 n ∙ ap (λ (k : ℕ). below n ++ k ∷ []) e

pub map-append : {X : Type 0} (f : ℕ → X) (xs ys : List ℕ) → map f (xs ++ ys) ≡ map f xs ++ map f ys
map-append f [] ys = refl
map-append f (x ∷ xs) ys = ap (λ (zs : List _). f x ∷ zs) (map-append f xs ys)

pub map-below : {X : Type 0} (f : ℕ → X) (n : ℕ) → map f (below (suc n)) ≡ map f (below n) ++ f n ∷ []
map-below f n = ap (λ (xs : List ℕ). map f xs) (below_more n) ∙ map-append f (below n) (n ∷ [])

pub flat-below : {X : Type 0} (f : ℕ → List X) (n : ℕ) → flat_map f (below (suc n)) ≡ flat_map f (below n) ++ f n
flat-below f n = ap (λ (xs : List ℕ). flat_map f xs) (below_more n) ∙ flat_map-append f (below n) (n ∷ [])
    ∙ ap (λ (ys : List _). flat_map f (below n) ++ ys) (append-nil (f n))

-- ---- what holds of each element

pub all_below : {X : Type 0} (P : X → Type 0) (f : ℕ → X) (n : ℕ) → ((i : ℕ) → i < n → P (f i)) → All P (map f (below n))
all_below P f zero h = All-nil P
all_below P f (suc n) h = All-same P (map f (below (suc n))) (map f (below n) ++ f n ∷ []) (map-below f n)
    (All-push P (map f (below n)) (f n) (all_below P f n (λ i p. h i (omega arith))) (h n (omega arith)))

pub all_flat_below : {X : Type 0} (P : X → Type 0) (f : ℕ → List X) (n : ℕ) → ((j : ℕ) → j < n → All P (f j)) → All P (flat_map f (below n))
all_flat_below P f zero h = All-nil P
all_flat_below P f (suc n) h = All-same P (flat_map f (below (suc n))) (flat_map f (below n) ++ f n) (flat-below f n)
    (All-append P (flat_map f (below n)) (f n) (all_flat_below P f n (λ j p. h j (omega arith))) (h n (omega arith)))

pub all_map : {X Y : Type 0} (Q : X → Type 0) (P : Y → Type 0) (f : X → Y) → ((x : X) → Q x → P (f x)) → (xs : List X) → All Q xs → All P (map f xs)
all_map Q P f g [] h = All-nil P
all_map Q P f g (x ∷ xs) h = All-cons P (f x) (map f xs) (g x (All-head Q x xs h)) (all_map Q P f g xs (All-tail Q x xs h))

pub all_flat : {X Y : Type 0} (Q : X → Type 0) (P : Y → Type 0) (f : X → List Y) → ((x : X) → Q x → All P (f x)) → (xs : List X) → All Q xs → All P (flat_map f xs)
all_flat Q P f g [] h = All-nil P
all_flat Q P f g (x ∷ xs) h = All-append P (f x) (flat_map f xs) (g x (All-head Q x xs h)) (all_flat Q P f g xs (All-tail Q x xs h))
