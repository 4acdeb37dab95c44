-- What a claim file says, and why it is refused.
use Rattle.std.specs.Prelude.{ℕ, ◌+◌, ◌^◌, ◌==◌, Bool, ◌&&◌, nat_le, nat_lt, List, [], ◌∷◌, length, map, pos, Option, Some, None, Result, Ok, Err}
use Rattle.std.specs.Option.{option_and_then}
use Rattle.csv.specs.Reading.{default_config, records, strip_bom}
use Rattle.csv.specs.Records.{field_at}
use Rattle.fx_base.specs.declared.Tick.{Tick}
use Rattle.claim_file.specs.declared.entry.Entry.{Entry}
use Rattle.claim_file.specs.declared.fault.ClaimFault.{ClaimFault}
use Rattle.claim_file.specs.declared.fault.ClaimFault.TheVariants as fault
use Rattle.claim_file.specs.Numbers.{number}
use Rattle.decimal_text.specs.Steps.{◌>>=◌, demand}

-- what there is, or the fault where there is nothing
abbrev pub or_fault : {A E : Type 0} → E → Option A → Result A E
or_fault e None = Err e
or_fault e (Some x) = Ok x

-- a lower and an upper bound for the light of each patch, in ticks of 2^-36 lux
pub record Claim : Type 0 where
  pub lower : List Tick
  pub upper : List Tick

abbrev pub claim_with : List Entry → Claim
claim_with entries = record { lower = map (λ e. e.lower) entries; upper = map (λ e. e.upper) entries }

abbrev pub tick : ℕ → Tick
tick n = record { 0 = pos n }

-- the number in one field of a record, where there is such a field and it writes one
abbrev pub number_in : List (List ℕ) → ℕ → Option ℕ
number_in fields i = option_and_then number (field_at fields i)

-- 2^90 ticks or fewer
abbrev pub is_end : ℕ → Bool
is_end t = nat_le t (2 ^ 90)

-- the bounds in the record at place n, counted from 0
unfoldable pub entry_in : ℕ → List (List ℕ) → Result Entry ClaimFault
entry_in n fields = do
  three ← demand (length fields == 3) (fault.Record (n + 1))
  patch ← or_fault (fault.Record (n + 1)) (number_in fields 0)
  lower ← or_fault (fault.Record (n + 1)) (number_in fields 1)
  upper ← or_fault (fault.Record (n + 1)) (number_in fields 2)
  ends ← demand (is_end lower && is_end upper) (fault.Record (n + 1))
  next ← demand (patch == n) (fault.Order (n + 1))
  Ok (record { lower = tick lower; upper = tick upper })

-- there is a patch for it, and it has as many fields as the header
unfoldable pub entry_of : ℕ → ℕ → ℕ → List (List ℕ) → Result Entry ClaimFault
entry_of patches width n fields = do
  wanted ← demand (nat_lt n patches) fault.Count
  even ← demand (length fields == width) (fault.Record (n + 1))
  entry_in n fields

-- what the records from place n on say, one for each patch from n on
unfoldable pub entries_of : ℕ → ℕ → ℕ → List (List (List ℕ)) → Result (List Entry) ClaimFault
entries_of patches width n [] = demand (n == patches) fault.Count >>= λ all. Ok []
entries_of patches width n (fields ∷ rows) = do
  entry ← entry_of patches width n fields
  entries ← entries_of patches width (n + 1) rows
  Ok (entry ∷ entries)

-- the claim in the records after the header
unfoldable pub claim_from : ℕ → ℕ → List (List (List ℕ)) → Result Claim ClaimFault
claim_from patches width rows = entries_of patches width 0 rows >>= λ entries. Ok (claim_with entries)

-- the first record is the header, of which the number of fields alone counts
unfoldable pub claim_after : ℕ → List (List (List ℕ)) → Result Claim ClaimFault
claim_after patches [] = claim_from patches 0 []
claim_after patches (header ∷ rows) = claim_from patches (length header) rows

-- the records of a text, as CSV is read by default
unfoldable pub claim_of : List ℕ → ℕ → Result Claim ClaimFault
claim_of bytes patches = claim_after patches (records default_config (strip_bom bytes))
