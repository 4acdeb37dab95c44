-- What is written of bounds is read again as the same bounds.
use Rattle.std.proofs.Common.{ℕ, zero, suc, ◌+◌, ◌≤◌, ◌≡◌, ◌∙◌, refl, ap, arith, List, [], ◌∷◌, length, map, All, zero-add}
use Rattle.std.proofs.lemmas.List.Elements.{All-head, All-tail}
use Rattle.csv.specs.Machine.{next_record}
use Rattle.csv.specs.Reading.{default_config, records, records_from, strip_bom}
use Rattle.csv.specs.Writing.{escaped, fields_text, is_blank, read_back}
use Rattle.csv.specs.declared.parser.State.TheVariants as st
use Rattle.csv.proofs.RoundTrip.{read-write}
use Rattle.fx_base.specs.Bound.{IsEnd}
use Rattle.fx_base.specs.declared.Tick.{Tick}
use Rattle.claim_file.specs.declared.entry.Entry.{Entry}
use Rattle.claim_file.specs.Claims.{claim_of}
use Rattle.claim_file.specs.Fits.{AreRows, IsClaimText, WrittenIsRead}
use Rattle.claim_file.specs.Written.{claim_bytes, claim_rows, header, rows_text}
use Rattle.claim_file.proofs.Fitting.{fits_after}
use Rattle.claim_file.proofs.Records.{same_records}

-- ---- the records of what is written

-- each record is read back as it was: it has a field
abbrev AreKept : List (List (List ℕ)) → Type 0
AreKept [] = Unit {0}
AreKept (fields ∷ rows) = (read_back fields ≡ fields) × AreKept rows

nothing : (k : ℕ) → records_from default_config k st.StartRecord [] ≡ []
unfolding records_from next_record
nothing zero = refl
nothing (suc k) = refl

read_in : (rows : List (List (List ℕ))) (k : ℕ) → AreKept rows → records_from default_config (length rows + k) st.StartRecord (rows_text rows) ≡ rows
unfolding records_from rows_text
read_in [] k h = rw (zero-add k) (nothing k)
read_in (fields ∷ rows) k h =
    let e : length (fields ∷ rows) + k ≡ suc (length rows + k) = omega arith in
    rw (e, read-write fields (rows_text rows), h.0) (ap (λ (rest : List (List (List ℕ))). fields ∷ rest) (read_in rows k h.1))

every_record : (rows : List (List (List ℕ))) → AreKept rows → records default_config (rows_text rows) ≡ rows
every_record rows h =
    same_records (length (rows_text rows) + 1) (length rows + (length (rows_text rows) + 1)) st.StartRecord (rows_text rows) refl (omega arith) (omega arith)
    ∙ read_in rows (length (rows_text rows) + 1) h

are_kept : (n : ℕ) (lower upper : List Tick) → AreKept (claim_rows n lower upper)
unfolding claim_rows
are_kept n [] upper = tt
are_kept n (l ∷ lower) [] = tt
are_kept n (l ∷ lower) (u ∷ upper) = (refl, are_kept (n + 1) lower upper)

-- it begins with no byte order mark
no_mark : (lower upper : List Tick) → strip_bom (claim_bytes lower upper) ≡ claim_bytes lower upper
unfolding strip_bom rows_text fields_text is_blank escaped
no_mark lower upper = refl

-- ---- what they say

abbrev entries : List Tick → List Tick → List Entry
entries [] upper = []
entries (l ∷ lower) [] = []
entries (l ∷ lower) (u ∷ upper) = record { lower = l; upper = u } ∷ entries lower upper

lower_back : (lower upper : List Tick) → length upper ≡ length lower → map (λ e. e.lower) (entries lower upper) ≡ lower
lower_back [] upper e = refl
lower_back (l ∷ lower) [] e = absurd (omega arith)
lower_back (l ∷ lower) (u ∷ upper) e = ap (λ (xs : List Tick). l ∷ xs) (lower_back lower upper (omega arith))

upper_back : (lower upper : List Tick) → length upper ≡ length lower → map (λ e. e.upper) (entries lower upper) ≡ upper
upper_back [] [] e = refl
upper_back [] (u ∷ upper) e = absurd (omega arith)
upper_back (l ∷ lower) [] e = absurd (omega arith)
upper_back (l ∷ lower) (u ∷ upper) e = ap (λ (xs : List Tick). u ∷ xs) (upper_back lower upper (omega arith))

size_back : (n : ℕ) (lower upper : List Tick) → length upper ≡ length lower → length (claim_rows n lower upper) ≡ length lower
unfolding claim_rows
size_back n [] upper e = refl
size_back n (l ∷ lower) [] e = absurd (omega arith)
size_back n (l ∷ lower) (u ∷ upper) e =
    let more : length (claim_rows (n + 1) lower upper) ≡ length lower = size_back (n + 1) lower upper (omega arith) in
    omega arith

rows_say : (n : ℕ) (lower upper : List Tick) → length upper ≡ length lower → n + length lower ≤ 2048 → All IsEnd lower → All IsEnd upper
    → AreRows 3 n (claim_rows n lower upper) (entries lower upper)
unfolding AreRows claim_rows
rows_say n [] upper e few low high = tt
rows_say n (l ∷ lower) [] e few low high = absurd (omega arith)
rows_say n (l ∷ lower) (u ∷ upper) e few low high = (
  refl,
  record { is = refl; low_fits = All-head IsEnd l lower low; high_fits = All-head IsEnd u upper high },
  rows_say (n + 1) lower upper (omega arith) (omega arith) (All-tail IsEnd l lower low) (All-tail IsEnd u upper high),
)

text_fits : (lower upper : List Tick) → length upper ≡ length lower → length lower ≤ 2048 → All IsEnd lower → All IsEnd upper
    → IsClaimText (length lower) (header ∷ claim_rows 0 lower upper) (entries lower upper)
unfolding IsClaimText
text_fits lower upper e few low high = (size_back 0 lower upper e, rows_say 0 lower upper e (omega arith) low high)

pub written_is_read : WrittenIsRead
unfolding claim_of
written_is_read lower upper e few low high =
    let text : records default_config (claim_bytes lower upper) ≡ header ∷ claim_rows 0 lower upper =
    every_record (header ∷ claim_rows 0 lower upper) (refl, are_kept 0 lower upper) in
    rw (no_mark lower upper, text) (fits_after (length lower) (header ∷ claim_rows 0 lower upper) (entries lower upper) few (text_fits lower upper e few low high)
    ∙ rw (lower_back lower upper e, upper_back lower upper e) refl)
