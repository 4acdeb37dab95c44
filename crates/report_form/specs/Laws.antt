-- What holds of the grid of a report, for who reads it.
use Rattle.std.specs.Prelude.{ℕ, ◌+◌, ◌/◌, ◌%◌, ◌<◌, ◌≡◌, ◌↔◌, List, [], length, decimal, slice_index_or, Option, None, IsNone, IfSome}
use Rattle.csv.specs.Reading.{default_config, records_from, strip_bom}
use Rattle.csv.specs.declared.parser.State.TheVariants as state
use Rattle.decimal_text.specs.Decimals.{hundredths}
use Rattle.report_form.specs.Grid.{grid_bytes, grid_records}
use Rattle.report_form.specs.declared.report.Printed.{Printed}
use Rattle.report_form.specs.declared.report.Report.{Report}

-- the records that the reader of `csv` finds by default are the header and one for each point, also where more are asked for
abbrev pub GridReadsBack : Type 0
GridReadsBack = (r : Report) (more : ℕ) → records_from default_config (length r.points + 1 + more) state.StartRecord (strip_bom (grid_bytes r)) ≡ grid_records r

-- a field of a record by its place, counted from 0
abbrev pub field : List (List ℕ) → ℕ → List ℕ
field fields i = slice_index_or fields i []

-- a record shows the k-th point: its column and its row, and then its ends, or two empty fields exactly where it is covered
pub record ShowsPoint (columns k : ℕ) (e : Option Printed) (fields : List (List ℕ)) : Type 0 where
  pub four : length fields ≡ 4
  pub column : field fields 0 ≡ decimal (k % columns)
  pub row : field fields 1 ≡ decimal (k / columns)
  pub lower : IfSome e (λ p. field fields 2 ≡ hundredths p.lo)
  pub upper : IfSome e (λ p. field fields 3 ≡ hundredths p.hi)
  pub no_lower : IsNone e ↔ (field fields 2 ≡ [])
  pub no_upper : IsNone e ↔ (field fields 3 ≡ [])

-- the record of each point, behind the header, shows it
abbrev pub GridShowsEachPoint : Type 0
GridShowsEachPoint = (r : Report) (k : ℕ) → k < length r.points → ShowsPoint r.columns k (slice_index_or r.points k None) (slice_index_or (grid_records r) (k + 1) [])
