-- The lines that sum up the tables of a room's files.
use Rattle.std.proofs.Common.{ℕ, String, Global, ◌+◌, ◌<◌, ◌≡◌, ◌∙◌, List, [], ◌∷◌, ◌++◌, length, get_or, map, arith, inl, inr, sym, subst, refl}
use Rattle.std.specs.Prelude.{slice_index_or, string_bytes}
use Rattle.std.proofs.lemmas.Bool.{cases_lt}
use Rattle.std.proofs.lemmas.List.{get_or_append_left, get_or_default, get_or_push, get_or-map, length-map, length_push, map-append}
use Rattle.photo_table.specs.Kept.{IsSummary}
use Rattle.photo_table.specs.Table.{Table}
use Rattle.report_page.specs.Files.{no_table, summary_at, AreSummaries}

-- each of these lines sums up the table with its number
abbrev pub SumUp : List Table → List (List ℕ) → Type 0
SumUp photos lines = (k : ℕ) → k < length lines → IsSummary (slice_index_or photos k no_table) (summary_at lines k)

pub no_line : (photos : List Table) → SumUp photos []
no_line photos k below = absurd (omega (arith, below))

-- one more line, of the next table
pub one_more_line : (photos : List Table) (lines : List (List ℕ)) (line : List ℕ) (place : ℕ) → length lines ≡ place → IsSummary (slice_index_or photos place no_table) line
    → SumUp photos lines → SumUp photos (lines ++ line ∷ [])
one_more_line photos lines line place e is h k below = elim (cases_lt k (length lines)) [
  | inl before ↦ subst (IsSummary (slice_index_or photos k no_table)) (sym (get_or_append_left lines (line ∷ []) [] k before)) (h k before)
  | inr after ↦
      let last : k ≡ place = omega (arith, length_push lines line, e, below, after) in
      rw last (subst (IsSummary (slice_index_or photos place no_table)) (sym (get_or_push lines line [] place e)) is)
]

-- so for texts
pub next_lines : (photos : List Table) (items new : List (String Global)) (s : String Global) (place : ℕ) → length items ≡ place → new ≡ items ++ s ∷ []
    → IsSummary (slice_index_or photos place no_table) (string_bytes s) → SumUp photos (map string_bytes items)
    → (length new ≡ place + 1) × SumUp photos (map string_bytes new)
next_lines photos items new s place e grown is h =
    let count : length (map (string_bytes {Z = Global}) items) ≡ place = length-map items string_bytes ∙ e in
    rw (grown, map-append (string_bytes {Z = Global}) items (s ∷ []))
    (omega (arith, length_push items s, e), one_more_line photos (map string_bytes items) (string_bytes s) place count is h)

-- the lines of all tables, as texts
pub all_lines : (photos : List Table) (lines : List (List ℕ)) → length lines ≡ length photos → SumUp photos lines → AreSummaries photos lines
all_lines photos lines count each = record { count = count; each = each }

-- the line of the table that is read at this place
pub at_place : (photos : List Table) (place : ℕ) (t : Table) (line : List ℕ) → place < length photos → t ≡ get_or photos place t → IsSummary t line
    → IsSummary (slice_index_or photos place no_table) line
at_place photos place t line within read is = subst (λ (x : Table). IsSummary x line) (read ∙ get_or_default photos place t no_table within) is
