-- The tables of a room's surfaces and of its boxes.
use Rattle.std.specs.Prelude.{ℕ, ◌==◌, if◌then◌else◌, List, [], ◌∷◌, ◌++◌, length, codes, decimal, slice_index_or}
use Rattle.decimal_text.specs.Decimals.{thousandths}
use Rattle.plan_drawing.specs.Metres.{metres}
use Rattle.plan_drawing.specs.Pieces.{first, joined}
use Rattle.report_form.specs.declared.report.Report.{Report}
use Rattle.room_layout.specs.declared.room.Block.{Block}
use Rattle.room_layout.specs.declared.room.Reflects.{Reflects}
use Rattle.room_layout.specs.declared.room.Room.{Room}
use Rattle.report_page.specs.Opening.{counted}
use Rattle.report_page.specs.Fixed.{fixed, table_end}

-- ---- the room's own surfaces

-- the row of a surface: its name and its reflectance
unfoldable pub surface_row : List ℕ → ℕ → List ℕ
surface_row name reflect = joined (codes "<tr><td>" ∷ name ∷ codes "</td><td>" ∷ thousandths reflect ∷ codes "</td></tr>\n" ∷ [])

-- floor and ceiling, and the walls at either end of x and of y
unfoldable pub surface_rows : Reflects → List ℕ
surface_rows r =
    surface_row (codes "Floor") r.floor ++ surface_row (codes "Ceiling") r.ceiling ++ surface_row (codes "Wall x = 0") r.x0
    ++ surface_row (codes "Far x wall") r.x1 ++ surface_row (codes "Wall y = 0") r.y0 ++ surface_row (codes "Far y wall") r.y1

-- how many patches there are, how long their edges are at most, and how many task points there are
unfoldable pub patch_count_text : (patches patch points : ℕ) → List ℕ
patch_count_text patches patch points = joined
    (codes "<p>Patches: " ∷ decimal patches ∷ codes ", with edges of at most " ∷ metres patch ∷ codes " m. Task points: " ∷ decimal points ∷ codes ", in " ∷ [])

-- so, and how the task points lie
unfoldable pub count_text : (patches : ℕ) → Room → Report → List ℕ
count_text patches room report =
    patch_count_text patches room.patch (length report.points) ++ counted room.task.nx (codes "column") (codes "columns") ++ fixed (codes " by ") ++ counted room.task.ny (codes "row") (codes "rows") ++ fixed (codes ".</p>\n")

-- the heading of the table
unfoldable pub surface_head : List ℕ
surface_head = codes "<h2>Surfaces</h2>\n<div class='scroll'><table>\n<thead><tr><th>Surface</th><th>Reflectance</th></tr></thead>\n<tbody>\n"

unfoldable pub surface_table : (patches : ℕ) → Room → Report → List ℕ
surface_table patches room report = surface_head ++ surface_rows room.reflect ++ table_end ++ count_text patches room report

-- ---- the boxes

-- what stands for a box past the last one
abbrev pub no_block : Block
no_block = record { lo = record { x = 0; y = 0; z = 0 }; hi = record { x = 0; y = 0; z = 0 }; reflect = 0 }

abbrev pub block_at : Room → ℕ → Block
block_at room k = slice_index_or room.blocks k no_block

-- from one end to the other, in metres
unfoldable pub stretch : ℕ → ℕ → List ℕ
stretch a b = joined (metres a ∷ codes " to " ∷ metres b ∷ [])

-- the row of a box: its number, how far it reaches along x, y and z, and its reflectance
unfoldable pub row_of_box : ℕ → Block → List ℕ
row_of_box k b = joined
    (codes "<tr><td>" ∷ decimal k ∷ codes "</td><td>" ∷ stretch b.lo.x b.hi.x ∷ codes "</td><td>" ∷ stretch b.lo.y b.hi.y ∷ codes "</td><td>"
    ∷ stretch b.lo.z b.hi.z ∷ codes "</td><td>" ∷ thousandths b.reflect ∷ codes "</td></tr>\n" ∷ [])

abbrev pub box_row : Room → ℕ → List ℕ
box_row room k = row_of_box k (block_at room k)

-- a row for each box
unfoldable pub box_table : Room → List ℕ
box_table room =
    fixed (codes "<h2>Boxes</h2>\n<div class='scroll'><table>\n<thead><tr><th>Box</th><th>x, m</th><th>y, m</th><th>z, m</th><th>Reflectance</th></tr></thead>\n<tbody>\n")
    ++ first (length room.blocks) (box_row room) ++ table_end

-- nothing where there is none
abbrev pub boxes_told : Room → List ℕ
boxes_told room = if length room.blocks == 0 then [] else box_table room
