-- The grid of a report as comma-separated values: a header, and a record for each point by row, then by column.
use Rattle.std.specs.Prelude.{ℕ, ◌+◌, ◌/◌, ◌%◌, List, [], ◌∷◌, codes, decimal, flat_map, Option, Some, None}
use Rattle.csv.specs.Writing.{default_writer, row_text}
use Rattle.decimal_text.specs.Decimals.{hundredths}
use Rattle.report_form.specs.declared.report.Printed.{Printed}
use Rattle.report_form.specs.declared.report.Report.{Report}

-- the names of the four fields
abbrev pub header : List (List ℕ)
header = codes "column" ∷ codes "row" ∷ codes "lower" ∷ codes "upper" ∷ []

-- the ends of a point in lux, which are two empty fields where it is covered
abbrev pub ends_fields : Option Printed → List (List ℕ)
ends_fields None = [] ∷ [] ∷ []
ends_fields (Some e) = hundredths e.lo ∷ hundredths e.hi ∷ []

-- the record of the k-th point: its column, its row and its ends
abbrev pub point_record : ℕ → ℕ → Option Printed → List (List ℕ)
point_record columns k e = decimal (k % columns) ∷ decimal (k / columns) ∷ ends_fields e

-- the records of the points from the k-th on
unfoldable pub point_records : ℕ → ℕ → List (Option Printed) → List (List (List ℕ))
point_records columns k [] = []
point_records columns k (e ∷ more) = point_record columns k e ∷ point_records columns (k + 1) more

-- the header, then the records of all points
abbrev pub grid_records : Report → List (List (List ℕ))
grid_records r = header ∷ point_records r.columns 0 r.points

-- the bytes of these records, each as the writer of `csv` writes it by default
abbrev pub grid_bytes : Report → List ℕ
grid_bytes r = flat_map (row_text default_writer) (grid_records r)
