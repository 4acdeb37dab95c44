-- The text of a claim: a header, and a record for each patch with its number from 0 and its two bounds in ticks.
use Rattle.std.specs.Prelude.{ℕ, ◌+◌, List, [], ◌∷◌, ◌++◌, codes}
use Rattle.std.specs.Fmt.{decimal}
use Rattle.csv.specs.Writing.{default_writer, row_text}
use Rattle.fx_base.specs.declared.Tick.{Tick}
use Rattle.fx_base.specs.Units.{natural}

-- `patch,lower,upper`
abbrev pub header : List (List ℕ)
header = codes "patch" ∷ codes "lower" ∷ codes "upper" ∷ []

abbrev pub digits_of : Tick → List ℕ
digits_of t = decimal (natural t.0)

-- the record of patch n
abbrev pub patch_row : ℕ → Tick → Tick → List (List ℕ)
patch_row n lower upper = decimal n ∷ digits_of lower ∷ digits_of upper ∷ []

-- the records of the patches from number n on
unfoldable pub claim_rows : ℕ → List Tick → List Tick → List (List (List ℕ))
claim_rows n [] uppers = []
claim_rows n (lower ∷ lowers) [] = []
claim_rows n (lower ∷ lowers) (upper ∷ uppers) = patch_row n lower upper ∷ claim_rows (n + 1) lowers uppers

-- records as CSV is written by default, one after the other
unfoldable pub rows_text : List (List (List ℕ)) → List ℕ
rows_text [] = []
rows_text (fields ∷ rows) = row_text default_writer fields ++ rows_text rows

abbrev pub claim_bytes : List Tick → List Tick → List ℕ
claim_bytes lower upper = rows_text (header ∷ claim_rows 0 lower upper)
