-- Texts as lists of pieces.
use Rattle.std.specs.Prelude.{ℕ, zero, suc, List, [], ◌∷◌, ◌++◌}

-- the text of some pieces, one after the other
abbrev pub joined : List (List ℕ) → List ℕ
joined [] = []
joined (piece ∷ more) = piece ++ joined more

-- the text of the first n of numbered pieces, from number 0 on
unfoldable pub first : ℕ → (ℕ → List ℕ) → List ℕ
first zero piece = []
first (suc n) piece = first n piece ++ piece n
