-- The items of a file: what stands between separators.
use Rattle.std.specs.Prelude.{ℕ, ◌==◌, ◌||◌, ◌++◌, ◌≡◌, Bool, true, false, not, if◌then◌else◌, List, [], ◌∷◌, codes, filter, refl}

-- space, tab, CR, LF, a comma, and the byte 0x1A that ends files of old
abbrev pub is_separator : ℕ → Bool
is_separator b = b == 32 || b == 9 || b == 13 || b == 10 || b == 44 || b == 26

abbrev pub is_of_item : ℕ → Bool
is_of_item b = not (is_separator b)

abbrev pub onto_first : ℕ → List (List ℕ) → List (List ℕ)
onto_first b [] = (b ∷ []) ∷ []
onto_first b (piece ∷ pieces) = (b ∷ piece) ∷ pieces

-- cut at each separator
unfoldable pub pieces : List ℕ → List (List ℕ)
pieces [] = [] ∷ []
pieces (b ∷ bytes) = if is_separator b then [] ∷ pieces bytes else onto_first b (pieces bytes)

abbrev pub is_filled : List ℕ → Bool
is_filled [] = false
is_filled (b ∷ bytes) = true

-- the pieces that aren't empty
unfoldable pub items_of : List ℕ → List (List ℕ)
items_of bytes = filter is_filled (pieces bytes)

three_items : items_of (codes " a,,bc" ++ 13 ∷ 10 ∷ 26 ∷ 9 ∷ codes "d-1") ≡ codes "a" ∷ codes "bc" ∷ codes "d-1" ∷ []
unfolding items_of pieces
three_items = refl

no_items : items_of (codes " , ") ≡ []
unfolding items_of pieces
no_items = refl
