-- Lists joined.
use Rattle.std.proofs.Common.{ℕ, zero, suc, ◌+◌, ◌-◌, ◌*◌, ◌<◌, ◌≤◌, ◌≡◌, List, [], ◌∷◌, ◌++◌, length, map, slice_index_or, take, drop, subst, arith, refl, ap, sym, ◌∙◌, inl, inr}
use Rattle.std.proofs.Math.Nat.{mul-le-mul_left}
use Rattle.std.proofs.lemmas.List.{map-append, length-append, get_or_append_left, get_or-append_right, length-take, length-take-le, length-drop, get_or-take, get_or-drop}
use Rattle.std.proofs.lemmas.Bool.{cases_lt}
use Rattle.symmetry_expand.specs.AllRound.{joined, row_of}

pub joined_none : {A : Type 0} (f : ℕ → List A) → joined f 0 ≡ []
unfolding joined
joined_none f = refl

pub joined_more : {A : Type 0} (f : ℕ → List A) (n : ℕ) → joined f (n + 1) ≡ joined f n ++ f n
unfolding joined
joined_more f n = let e : n + 1 ≡ suc n = omega arith in rw e refl

-- one more list at the end
pub appended : {A : Type 0} (f : ℕ → List A) (n : ℕ) (old new xs : List A) → new ≡ old ++ xs → old ≡ joined f n → xs ≡ f n → new ≡ joined f (n + 1)
appended f n old new xs e g h = rw (joined_more f n, e, g, h) refl

pub joined_map : {A B : Type 0} (h : A → B) (f : ℕ → List A) (n : ℕ) → map h (joined f n) ≡ joined (λ i. map h (f i)) n
unfolding joined
joined_map h f zero = refl
joined_map h f (suc n) = rw (map-append h (joined f n) (f n), joined_map h f n) refl

pub joined_same : {A : Type 0} (f g : ℕ → List A) (n : ℕ) → ((i : ℕ) → i < n → f i ≡ g i) → joined f n ≡ joined g n
unfolding joined
joined_same f g zero h = refl
joined_same f g (suc n) h = rw (joined_same f g n (λ i p. h i (omega arith)), h n (omega arith)) refl

-- of n lists of g each, n * g in all
pub joined_length : {A : Type 0} (f : ℕ → List A) (g n : ℕ) → ((i : ℕ) → i < n → length (f i) ≡ g) → length (joined f n) ≡ n * g
unfolding joined
joined_length f g zero h = omega arith
joined_length f g (suc n) h = rw (length-append (joined f n) (f n)) (let a = joined_length f g n (λ i p. h i (omega arith)) in let b = h n (omega arith) in omega arith)

within : (i n g j : ℕ) → i < n → j < g → i * g + j < n * g
within i n g j p q = let h : i + 1 ≤ n = omega arith in omega (arith, mul-le-mul_left g h)

-- place j of list i
pub joined_get : {A : Type 0} (f : ℕ → List A) (g n : ℕ) (d : A) → ((i : ℕ) → i < n → length (f i) ≡ g) → (i j : ℕ) → i < n → j < g
    → slice_index_or (joined f n) (i * g + j) d ≡ slice_index_or (f i) j d
unfolding joined
joined_get f g zero d h i j p q = absurd (omega arith)
joined_get f g (suc n) d h i j p q =
    let all = joined_length f g n (λ k r. h k (omega arith)) in
    elim (cases_lt i n) [
      | inl l ↦ get_or_append_left (joined f n) (f n) d (i * g + j) (let w = within i n g j l q in omega arith) ∙ joined_get f g n d (λ k r. h k (omega arith)) i j l q
      | inr r ↦
          let e : i ≡ n = omega arith in
          let s : n * g + j - n * g ≡ j = omega arith in
          rw e (get_or-append_right (joined f n) (f n) (n * g) (n * g + j) d all (omega arith) ∙ ap (λ (k : ℕ). slice_index_or (f n) k d) s)
    ]

-- ---- of lists of one each

pub ones_length : {A : Type 0} (x : ℕ → A) (n : ℕ) → length (joined (λ i. x i ∷ []) n) ≡ n
ones_length x n = let e = joined_length (λ i. x i ∷ []) 1 n (λ i p. refl) in omega (arith, e)

pub ones_get : {A : Type 0} (x : ℕ → A) (n : ℕ) (d : A) (i : ℕ) → i < n → slice_index_or (joined (λ i. x i ∷ []) n) i d ≡ x i
ones_get x n d i p =
    let e : i * 1 + 0 ≡ i = omega arith in
    let g = joined_get (λ i. x i ∷ []) 1 n d (λ i p. refl) i 0 p (omega arith) in
    rw e at g

-- ---- what holds of each element

abbrev pub AllAt : {A : Type 0} → (A → Type 0) → List A → Type 0
AllAt {A} P xs = (i : ℕ) (d : A) → i < length xs → P (slice_index_or xs i d)

append_all : {A : Type 0} (P : A → Type 0) (xs ys : List A) → AllAt P xs → AllAt P ys → AllAt P (xs ++ ys)
append_all {A} P xs ys h g i d p = elim (cases_lt i (length xs)) [
  | inl l ↦ let Q : A → Type 0 = P in subst Q (sym (get_or_append_left xs ys d i l)) (h i d l)
  | inr r ↦
      let q : i - length xs < length ys = let a = length-append xs ys in omega arith in
      let Q : A → Type 0 = P in subst Q (sym (get_or-append_right xs ys (length xs) i d refl r)) (g (i - length xs) d q)
]

pub joined_all : {A : Type 0} (P : A → Type 0) (f : ℕ → List A) (n : ℕ) → ((i : ℕ) → i < n → AllAt P (f i)) → AllAt P (joined f n)
unfolding joined
joined_all P f zero h = λ i d p. absurd (omega arith)
joined_all P f (suc n) h = append_all P (joined f n) (f n) (joined_all P f n (λ i p. h i (omega arith))) (h n (omega arith))

-- ---- rows

pub row_taken : {A : Type 0} (g k : ℕ) (xs : List A) → take ((k + 1) * g - k * g) (drop (k * g) xs) ≡ row_of g k xs
row_taken g k xs = let e : (k + 1) * g - k * g ≡ g = omega arith in rw e refl

row_fits : (g k n : ℕ) → k ≤ n → k * g + g ≤ (n + 1) * g
row_fits g k n p = let h : k + 1 ≤ n + 1 = omega arith in omega (arith, mul-le-mul_left g h)

pub row_length : {A : Type 0} (g k n : ℕ) (xs : List A) → k ≤ n → length xs ≡ (n + 1) * g → length (row_of g k xs) ≡ g
row_length g k n xs p e =
    let f = row_fits g k n p in
    length-take-le g (drop (k * g) xs) (let d = length-drop (k * g) xs in omega arith)

pub row_get : {A : Type 0} (g k : ℕ) (xs : List A) (j : ℕ) (d : A) → j < g → slice_index_or (row_of g k xs) j d ≡ slice_index_or xs (k * g + j) d
row_get g k xs j d p = get_or-take g (drop (k * g) xs) j d p ∙ get_or-drop (k * g) xs j d

pub row_all : {A : Type 0} (P : A → Type 0) (g k : ℕ) (xs : List A) → AllAt P xs → AllAt P (row_of g k xs)
row_all {A} P g k xs h j d p =
    let a = length-take g (drop (k * g) xs) in
    let b = length-drop (k * g) xs in
    let q : j < g = omega arith in
    let r : k * g + j < length xs = omega arith in
    let Q : A → Type 0 = P in
    subst Q (sym (row_get g k xs j d q)) (h (k * g + j) d r)
