-- How bytes are cut into items.
use Rattle.std.proofs.Common.{ℕ, suc, ◌+◌, ◌<◌, ◌≡◌, Bool, true, false, List, [], ◌∷◌, take, drop, refl, sym, ap, ◌∙◌, arith, filter}
use Rattle.std.specs.List.{prefix_len}
use Rattle.std.proofs.lemmas.List.{drop-drop}
use Rattle.lm63_read.specs.Items.{is_separator, is_of_item, is_filled, pieces, items_of}

-- separators at the front stand for nothing
pub past_separators : (xs : List ℕ) → items_of (drop (prefix_len is_separator xs) xs) ≡ items_of xs
unfolding items_of pieces
past_separators [] = refl
past_separators (x ∷ xs) = at (is_separator x) refl (past_separators xs)
  where
    at : (b : Bool) → is_separator x ≡ b → items_of (drop (prefix_len is_separator xs) xs) ≡ items_of xs
        → items_of (drop (prefix_len is_separator (x ∷ xs)) (x ∷ xs)) ≡ items_of (x ∷ xs)
    at true e h = let s : 1 + prefix_len is_separator xs ≡ suc (prefix_len is_separator xs) = omega arith in rw (e, s) h
    at false e h = let k : prefix_len is_separator (x ∷ xs) ≡ 0 = rw e refl in ap (λ n. items_of (drop n (x ∷ xs))) k

-- the first piece is what stands in front of the first separator, and what follows it has the items of the rest
record Front (xs : List ℕ) : Type 0 where
  others : List (List ℕ)
  is : pieces xs ≡ take (prefix_len is_of_item xs) xs ∷ others
  rest : items_of (drop (prefix_len is_of_item xs) xs) ≡ filter is_filled others

front_of : (xs : List ℕ) → Front xs
unfolding items_of pieces
front_of [] = record { others = []; is = refl; rest = refl }
front_of (x ∷ xs) = at (is_separator x) refl (front_of xs)
  where
    at : (b : Bool) → is_separator x ≡ b → Front xs → Front (x ∷ xs)
    at true e f =
        let k : prefix_len is_of_item (x ∷ xs) ≡ 0 = rw e refl in
        let h : items_of (x ∷ xs) ≡ filter is_filled (pieces xs) = rw e refl in
        record { others = pieces xs; is = rw e refl; rest = ap (λ n. items_of (drop n (x ∷ xs))) k ∙ h }
    at false e f =
        let s : 1 + prefix_len is_of_item xs ≡ suc (prefix_len is_of_item xs) = omega arith in
        record { others = f.others; is = rw (e, s, f.is) refl; rest = rw (e, s) f.rest }

-- where bytes begin with an item, it is their first
pub first_item : (xs : List ℕ) → 0 < prefix_len is_of_item xs
    → items_of xs ≡ take (prefix_len is_of_item xs) xs ∷ items_of (drop (prefix_len is_of_item xs) xs)
unfolding items_of pieces
first_item [] h = absurd (omega arith)
first_item (x ∷ xs) h = at (is_separator x) refl (front_of (x ∷ xs)) h
  where
    at : (b : Bool) → is_separator x ≡ b → Front (x ∷ xs) → 0 < prefix_len is_of_item (x ∷ xs)
        → items_of (x ∷ xs) ≡ take (prefix_len is_of_item (x ∷ xs)) (x ∷ xs) ∷ items_of (drop (prefix_len is_of_item (x ∷ xs)) (x ∷ xs))
    at true e f h = absurd (let g = rw e at h in omega arith)
    at false e f h =
        let s : 1 + prefix_len is_of_item xs ≡ suc (prefix_len is_of_item xs) = omega arith in
        rw (f.is, ← f.rest) (rw (e, s) refl)

-- where no item follows the separators, there is none
pub no_item : (xs : List ℕ) → prefix_len is_of_item (drop (prefix_len is_separator xs) xs) ≡ 0 → items_of xs ≡ []
unfolding items_of pieces
no_item [] h = refl
no_item (x ∷ xs) h = at (is_separator x) refl (no_item xs) h
  where
    at : (b : Bool) → is_separator x ≡ b → (prefix_len is_of_item (drop (prefix_len is_separator xs) xs) ≡ 0 → items_of xs ≡ [])
        → prefix_len is_of_item (drop (prefix_len is_separator (x ∷ xs)) (x ∷ xs)) ≡ 0 → items_of (x ∷ xs) ≡ []
    at true e f h = let s : 1 + prefix_len is_separator xs ≡ suc (prefix_len is_separator xs) = omega arith in rw e (f (rw (e, s) at h))
    at false e f h = absurd (let g = rw (e, e) at h in omega arith)

-- after s separators an item of n bytes stands, and then others
pub next_of : (bytes : List ℕ) (at s n : ℕ) → s ≡ prefix_len is_separator (drop at bytes) → n ≡ prefix_len is_of_item (drop (at + s) bytes) → 0 < n
    → items_of (drop at bytes) ≡ take n (drop (at + s) bytes) ∷ items_of (drop (at + s + n) bytes)
next_of bytes at s n e f h =
    let ys = drop (at + s) bytes in
    let p : items_of ys ≡ items_of (drop at bytes) = rw (← drop-drop s at bytes, e) (past_separators (drop at bytes)) in
    let q : items_of ys ≡ take n ys ∷ items_of (drop n ys) = rw f (first_item ys (omega arith)) in
    sym p ∙ (q ∙ ap (λ zs. take n ys ∷ items_of zs) (drop-drop n (at + s) bytes))

pub end_of : (bytes : List ℕ) (at s : ℕ) → s ≡ prefix_len is_separator (drop at bytes) → prefix_len is_of_item (drop (at + s) bytes) ≡ 0
    → items_of (drop at bytes) ≡ []
end_of bytes at s e h = no_item (drop at bytes) (rw (← e, drop-drop s at bytes) h)
