-- The records of a grid, read back.
use Rattle.std.proofs.Common.{ℕ, zero, suc, ◌+◌, ◌<◌, ◌≡◌, ◌∙◌, List, [], ◌∷◌, ◌++◌, ◌/◌, ◌%◌, length, map, add-one, ap, sym, subst, refl, arith, flat_map, true, false}
use Rattle.std.specs.Prelude.{slice_index_or, Option, Some, None, decimal}
use Rattle.csv.proofs.RoundTrip.{read-write}
use Rattle.csv.specs.Machine.{next_record}
use Rattle.csv.specs.Reading.{default_config, records_from, strip_bom}
use Rattle.csv.specs.Writing.{default_writer, row_text, read_back, fields_text, is_blank}
use Rattle.csv.specs.declared.parser.State.TheVariants as state
use Rattle.decimal_text.specs.Decimals.{hundredths}
use Rattle.report_form.specs.Grid.{grid_bytes, grid_records, header, point_record, point_records}
use Rattle.report_form.specs.Laws.{GridReadsBack, GridShowsEachPoint, ShowsPoint}
use Rattle.report_form.specs.declared.report.Printed.{Printed}
use Rattle.report_form.specs.declared.report.Report.{Report}

-- ---- what is written is read back

abbrev written : List (List (List ℕ)) → List ℕ
written rows = flat_map (row_text default_writer) rows

-- past the end there are no records
past_end : (more : ℕ) → records_from default_config more state.StartRecord [] ≡ []
unfolding records_from next_record
past_end zero = refl
past_end (suc more) = refl

-- records that are written are read, and none behind them, except that one without fields is read as one empty field
read_all : (rows : List (List (List ℕ))) (more : ℕ) → records_from default_config (length rows + more) state.StartRecord (written rows) ≡ map read_back rows
unfolding records_from
read_all [] more = let z : 0 + more ≡ more = omega arith in rw z (past_end more)
read_all (row ∷ rows) more = let n : suc (length rows) + more ≡ suc (length rows + more) = omega arith in
    rw (n, read-write row (written rows)) (ap (λ (t : List (List (List ℕ))). read_back row ∷ t) (read_all rows more))

-- no record of a point is without fields
records_stay : (columns k : ℕ) (points : List (Option Printed)) → map read_back (point_records columns k points) ≡ point_records columns k points
unfolding point_records
records_stay columns k [] = refl
records_stay columns k (e ∷ more) = ap (λ (t : List (List (List ℕ))). point_record columns k e ∷ t) (records_stay columns (k + 1) more)

record_count : (columns k : ℕ) (points : List (Option Printed)) → length (point_records columns k points) ≡ length points
unfolding point_records
record_count columns k [] = refl
record_count columns k (e ∷ more) = ap suc (record_count columns (k + 1) more)

-- the grid begins with no byte order mark
no_mark : (r : Report) → strip_bom (grid_bytes r) ≡ grid_bytes r
unfolding strip_bom fields_text is_blank
no_mark r = refl

pub reads_back : GridReadsBack
reads_back r more =
    let size : length r.points + 1 + more ≡ length (grid_records r) + more = let e = record_count r.columns 0 r.points in omega arith in
    rw (no_mark r, size) (read_all (grid_records r) more ∙ ap (λ (t : List (List (List ℕ))). header ∷ t) (records_stay r.columns 0 r.points))

-- ---- the record of a point shows it

-- the record of the k-th of some points
record_at : (columns j k : ℕ) (points : List (Option Printed)) → k < length points
    → slice_index_or (point_records columns j points) k [] ≡ point_record columns (j + k) (slice_index_or points k None)
unfolding point_records
record_at columns j k [] h = absurd (omega arith)
record_at columns j zero (e ∷ more) h = let z : j + 0 ≡ j = omega arith in rw z refl
record_at columns j (suc k) (e ∷ more) h =
    let n : j + 1 + k ≡ j + suc k = omega arith in
    record_at columns (j + 1) k more (omega arith) ∙ ap (λ (m : ℕ). point_record columns m (slice_index_or more k None)) n

not_empty : (a b c : List ℕ) (x : ℕ) → ((a ++ (x ∷ [])) ++ b) ++ c ≡ [] → ⊥
not_empty [] b c x e = cc
not_empty (y ∷ a) b c x e = cc

-- a number is spelled with at least its point
spelled : (n : ℕ) → hundredths n ≡ [] → ⊥
spelled n e = not_empty (decimal (n / 100)) (decimal (n / 10 % 10)) (decimal (n % 10)) 46 e

shows : (columns k : ℕ) (e : Option Printed) → ShowsPoint columns k e (point_record columns k e)
shows columns k None = record { four = refl; column = refl; row = refl; lower = tt; upper = tt; no_lower = (λ _. refl, λ _. refl); no_upper = (λ _. refl, λ _. refl) }
shows columns k (Some e) = record {
  four = refl;
  column = refl;
  row = refl;
  lower = refl;
  upper = refl;
  no_lower = (λ h. absurd (let i : true ≡ false = h in cc), λ h. absurd (spelled e.lo h));
  no_upper = (λ h. absurd (let i : true ≡ false = h in cc), λ h. absurd (spelled e.hi h));
}

pub shows_each : GridShowsEachPoint
shows_each r k h =
    let e = slice_index_or r.points k None in
    let z : 0 + k ≡ k = omega arith in
    let at : slice_index_or (point_records r.columns 0 r.points) k [] ≡ point_record r.columns k e =
    record_at r.columns 0 k r.points h ∙ ap (λ (m : ℕ). point_record r.columns m e) z in
    let P : List (List ℕ) → Type 0 = λ fields. ShowsPoint r.columns k e fields in
    rw add-one (subst P (sym at) (shows r.columns k e))
