-- A claim's text and the records of a fresh reader of it.
use Rattle.std.proofs.Common.{ℕ, ◌≡◌, ◌∙◌, refl, sym, List, [], ◌∷◌, length, Some, Bor}
use Rattle.std.specs.Prelude.{Ok, Err}
use Rattle.std.proofs.lemmas.Bool.{ne_eqb}
use Rattle.csv.specs.Reading.{default_config, reader_state, records, source_of, strip_bom}
use Rattle.csv.specs.declared.reader.Reader.{Reader}
use Rattle.csv.specs.declared.parser.State.TheVariants as st
use Rattle.claim_file.specs.declared.fault.ClaimFault.TheVariants as fault
use Rattle.claim_file.specs.Claims.{claim_after, claim_from, claim_of, entries_of}
use Rattle.claim_file.specs.Rows.{bytes_left, rows_left}

pub all_left : (r : Reader (Bor (List ℕ))) (bytes : List ℕ) → reader_state r ≡ st.StartRecord → source_of bytes_left r ≡ Some (strip_bom bytes)
    → rows_left r ≡ records default_config (strip_bom bytes)
unfolding rows_left
all_left r bytes e known = rw (e, known) refl

pub after_header : (bytes : List ℕ) (patches width : ℕ) (rows : List (List (List ℕ))) (header : List (List ℕ)) (rest : List (List (List ℕ)))
    → rows ≡ records default_config (strip_bom bytes) → rows ≡ header ∷ rest → length header ≡ width → claim_of bytes patches ≡ claim_from patches width rest
unfolding claim_of claim_after
after_header bytes patches width rows header rest all is wide = rw (sym all, is, wide) refl

no_header : (bytes : List ℕ) (patches : ℕ) (rows : List (List (List ℕ))) → rows ≡ records default_config (strip_bom bytes) → rows ≡ []
    → claim_of bytes patches ≡ claim_from patches 0 []
unfolding claim_of claim_after
no_header bytes patches rows all is = rw (sym all, is) refl

pub no_patch : (bytes : List ℕ) (patches : ℕ) (rows : List (List (List ℕ))) → rows ≡ records default_config (strip_bom bytes) → rows ≡ [] → patches ≡ 0
    → claim_of bytes patches ≡ Ok (record { lower = []; upper = [] })
unfolding claim_from entries_of
no_patch bytes patches rows all is none = no_header bytes patches rows all is ∙ rw none refl

pub no_record : (bytes : List ℕ) (patches : ℕ) (rows : List (List (List ℕ))) → rows ≡ records default_config (strip_bom bytes) → rows ≡ []
    → (patches ≡ 0 → ⊥) → claim_of bytes patches ≡ Err fault.Count
unfolding claim_from entries_of
no_record bytes patches rows all is some = no_header bytes patches rows all is ∙ rw (ne_eqb 0 patches (λ e. some (sym e))) refl
