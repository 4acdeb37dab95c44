-- Which records a claim has, apart from how they are read; and that what is written is read again.
use Rattle.std.specs.Prelude.{ℕ, ◌+◌, ◌≤◌, ◌≡◌, ◌↔◌, List, [], ◌∷◌, length, Ok, All}
use Rattle.csv.specs.Reading.{default_config, records, strip_bom}
use Rattle.fx_base.specs.declared.Tick.{Tick}
use Rattle.fx_base.specs.Bound.{IsEnd}
use Rattle.claim_file.specs.declared.entry.Entry.{Entry}
use Rattle.claim_file.specs.Claims.{Claim, claim_of, claim_with}
use Rattle.claim_file.specs.Written.{claim_bytes, patch_row}

-- the record of patch n with these bounds of at most 2^90 ticks: three numbers in digits
pub record IsRow (n : ℕ) (fields : List (List ℕ)) (e : Entry) : Type 0 where
  pub is : fields ≡ patch_row n e.lower e.upper
  pub low_fits : IsEnd e.lower
  pub high_fits : IsEnd e.upper

-- one for each patch from number n on, each as wide as the header
unfoldable pub AreRows : ℕ → ℕ → List (List (List ℕ)) → List Entry → Type 0
AreRows width n [] [] = Unit {0}
AreRows width n [] (e ∷ es) = ⊥
AreRows width n (fields ∷ rows) [] = ⊥
AreRows width n (fields ∷ rows) (e ∷ es) = (length fields ≡ width) × IsRow n fields e × AreRows width (n + 1) rows es

-- a header and those records; a text of no record says a claim for no patch
unfoldable pub IsClaimText : ℕ → List (List (List ℕ)) → List Entry → Type 0
IsClaimText patches [] entries = (entries ≡ []) × (patches ≡ 0)
IsClaimText patches (head ∷ rows) entries = (length rows ≡ patches) × AreRows (length head) 0 rows entries

-- a text is read as a claim exactly where its records fit one
abbrev pub ClaimIsRead : Type 0
ClaimIsRead = (bytes : List ℕ) (patches : ℕ) (claim : Claim) → patches ≤ 2048
    → (claim_of bytes patches ≡ Ok claim)
    ↔ ((entries : List Entry) × IsClaimText patches (records default_config (strip_bom bytes)) entries × (claim ≡ claim_with entries))

-- what is written of bounds is read again as the same bounds
abbrev pub WrittenIsRead : Type 0
WrittenIsRead = (lower upper : List Tick) → length upper ≡ length lower → length lower ≤ 2048 → All IsEnd lower → All IsEnd upper
    → claim_of (claim_bytes lower upper) (length lower) ≡ Ok (record { lower = lower; upper = upper })
