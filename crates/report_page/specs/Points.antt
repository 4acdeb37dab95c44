-- The table of all task points, which stands where a plan's cells are too small for numbers.
use Rattle.std.specs.Prelude.{ℕ, ◌/◌, ◌%◌, if◌then◌else◌, List, [], ◌∷◌, ◌++◌, length, codes, decimal, slice_index_or, Option, Some, None}
use Rattle.decimal_text.specs.Decimals.{hundredths}
use Rattle.plan_drawing.specs.Figures.{numbers_fit}
use Rattle.plan_drawing.specs.Pieces.{first, joined}
use Rattle.report_form.specs.declared.report.Printed.{Printed}
use Rattle.report_form.specs.declared.report.Report.{Report}
use Rattle.room_layout.specs.declared.room.Room.{Room}
use Rattle.report_page.specs.Fixed.{fixed, table_end}

-- the ends of a point in lux, or that a box covers it
abbrev pub ends_cells : Option Printed → List ℕ
ends_cells None = codes "<td colspan='2'>covered</td>"
ends_cells (Some e) = joined (codes "<td>" ∷ hundredths e.lo ∷ codes "</td><td>" ∷ hundredths e.hi ∷ codes "</td>" ∷ [])

-- the row of the k-th point: its column, its row and its ends
abbrev pub point_row : Report → ℕ → List ℕ
point_row report k = joined
    (codes "<tr><td>" ∷ decimal (k % report.columns) ∷ codes "</td><td>" ∷ decimal (k / report.columns) ∷ codes "</td>" ∷ ends_cells (slice_index_or report.points k None)
    ∷ codes "</tr>\n" ∷ [])

-- the heading of the table
unfoldable pub point_head : List ℕ
point_head = codes "<h2>Task points</h2>\n<p class='note'>Columns run along x and rows along y, both from 0; the ends of each interval are in lux.</p>\n<div class='points'>\n<div class='scroll'><table>\n<thead><tr><th>Column</th><th>Row</th><th>From</th><th>To</th></tr></thead>\n<tbody>\n"

-- a row for each point, by row of the grid, then by column
unfoldable pub point_table : Report → List ℕ
point_table report = point_head ++ first (length report.points) (point_row report) ++ table_end ++ fixed (codes "</div>\n")

-- the table where it is wanted
abbrev pub wanted_points : Room → Report → List ℕ
wanted_points room report = if numbers_fit room then [] else point_table report
