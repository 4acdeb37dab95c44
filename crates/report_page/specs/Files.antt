-- The table of the photometric files that a room's lamps use.
use Rattle.std.specs.Prelude.{ℕ, ◌≡◌, ◌<◌, ◌==◌, if◌then◌else◌, List, [], ◌∷◌, ◌++◌, length, codes, decimal, slice_index_or}
use Rattle.photo_table.specs.Kept.{IsSummary}
use Rattle.photo_table.specs.Table.{Table}
use Rattle.plan_drawing.specs.Pieces.{first, joined}
use Rattle.room_layout.specs.declared.room.Room.{Room}
use Rattle.report_page.specs.Escaped.{escaped}
use Rattle.report_page.specs.Lamps.{file_at}
use Rattle.report_page.specs.Fixed.{fixed, table_end}

-- what stands for a table past the last one
abbrev pub no_table : Table
no_table = record { planes = []; gammas = []; values = [] }

-- the line of the k-th file
abbrev pub summary_at : List (List ℕ) → ℕ → List ℕ
summary_at summaries k = slice_index_or summaries k []

-- the lines that sum up these tables, one for each, in their order
pub record AreSummaries (photos : List Table) (summaries : List (List ℕ)) : Type 0 where
  pub count : length summaries ≡ length photos
  pub each : (k : ℕ) → k < length summaries → IsSummary (slice_index_or photos k no_table) (summary_at summaries k)

-- which of its lamp sets, and the line that sums up its table
unfoldable pub file_cells : ℕ → List ℕ → List ℕ
file_cells set summary = joined (codes "</td><td>" ∷ decimal set ∷ codes "</td><td><code>" ∷ summary ∷ codes "</code></td></tr>\n" ∷ [])

-- the row of a file: its name, and these cells
unfoldable pub row_of_file : (name : List ℕ) → (set : ℕ) → (summary : List ℕ) → List ℕ
row_of_file name set summary = fixed (codes "<tr><td class='name'>") ++ escaped name ++ file_cells set summary

abbrev pub file_row : (summaries : List (List ℕ)) → Room → ℕ → List ℕ
file_row summaries room k = row_of_file (file_at room k).name (file_at room k).set (summary_at summaries k)

-- a row for each file, and what its last cell says
unfoldable pub file_table : (summaries : List (List ℕ)) → Room → List ℕ
file_table summaries room =
    fixed (codes "<h2>Photometric files</h2>\n<div class='scroll'><table>\n<thead><tr><th>File</th><th>Set</th><th>Its table</th></tr></thead>\n<tbody>\n")
    ++ first (length room.files) (file_row summaries room) ++ table_end
    ++ fixed (codes "<p class='note'>A file's table has so many half-planes C (planes), each with so many angles gamma, and its greatest intensity lies between the last two numbers, in candela.</p>\n")

-- nothing where there is none
abbrev pub files_told : (summaries : List (List ℕ)) → Room → List ℕ
files_told summaries room = if length room.files == 0 then [] else file_table summaries room
