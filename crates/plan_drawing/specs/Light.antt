-- The cells of the light, the numbers in them, and the outlines of boxes over them.
use Rattle.std.specs.Prelude.{ℕ, ◌+◌, ◌-◌, ◌*◌, ◌/◌, ◌%◌, List, [], ◌∷◌, ◌++◌, codes, decimal, Option, Some, None, slice_index_or}
use Rattle.decimal_text.specs.Decimals.{hundredths}
use Rattle.report_form.specs.declared.report.Printed.{Printed}
use Rattle.report_form.specs.declared.report.Report.{Report}
use Rattle.room_layout.specs.declared.room.Block.{Block}
use Rattle.room_layout.specs.declared.room.Room.{Room}
use Rattle.plan_drawing.specs.Metres.{area_text, metres}
use Rattle.plan_drawing.specs.Pieces.{joined}
use Rattle.plan_drawing.specs.Sizes.{box_area, cell_area, number_size, point_x, point_y}
use Rattle.plan_drawing.specs.Steps.{ink_class, step, step_class}
use Rattle.plan_drawing.specs.declared.metres.Area.{Area}

-- ---- cells

-- a covered cell is hatched, and each other has the colour of its lower end
abbrev pub cell_class : Option Printed → List ℕ
cell_class None = codes "covered"
cell_class (Some e) = step_class (step e.lo)

abbrev pub cell_said : Option Printed → List ℕ
cell_said None = codes "covered by a box"
cell_said (Some e) = joined (hundredths e.lo ∷ codes " to " ∷ hundredths e.hi ∷ codes " lx" ∷ [])

-- the column, the row and the place of a task point
abbrev pub point_name : (column row x y : ℕ) → List ℕ
point_name column row x y = joined
    (codes "point " ∷ decimal column ∷ codes " " ∷ decimal row ∷ codes " at " ∷ metres x ∷ codes ", " ∷ metres y ∷ codes " m" ∷ [])

unfoldable pub cell_text : Option Printed → Area → List ℕ → List ℕ
cell_text value area name = joined
    (codes "<rect class='" ∷ cell_class value ∷ codes "' " ∷ area_text area ∷ codes "><title>" ∷ name ∷ codes ": " ∷ cell_said value ∷ codes "</title></rect>\n" ∷ [])

-- the cell of a column and a row
abbrev pub placed_cell : Room → ℕ → ℕ → Option Printed → List ℕ
placed_cell room column row value = cell_text value (cell_area room column row) (point_name column row (point_x room.task column) (point_y room.task row))

-- the cell of point k: points go by row, then by column
unfoldable pub cell : Room → Report → ℕ → List ℕ
cell room report k = placed_cell room (k % report.columns) (k / report.columns) (slice_index_or report.points k None)

-- ---- numbers

-- where the numbers of a cell stand: in its middle, and the lower end a fifth of a letter above it
abbrev pub middle_of : Area → ℕ
middle_of a = a.x + a.width / 2

abbrev pub base_of : ℕ → Area → ℕ
base_of size a = a.y + a.height / 2 - size / 5

-- an interval with letters of this size: its lower end, with the colours of its step, and the upper one below it
unfoldable pub lower_text : ℕ → ℕ → ℕ → List ℕ
lower_text x y lo = joined
    (codes "<text class='" ∷ step_class (step lo) ∷ codes " " ∷ ink_class (step lo) ∷ codes "' x='" ∷ decimal x ∷ codes "' y='" ∷ decimal y ∷ codes "'>"
    ∷ hundredths lo ∷ codes "<tspan" ∷ [])

unfoldable pub upper_text : ℕ → ℕ → ℕ → List ℕ
upper_text x down hi = joined
    (codes " x='" ∷ decimal x ∷ codes "' dy='" ∷ decimal down ∷ codes "'>" ∷ hundredths hi ∷ codes "</tspan></text>\n" ∷ [])

abbrev pub ends_text : ℕ → Area → Printed → List ℕ
ends_text size a e = lower_text (middle_of a) (base_of size a) e.lo ++ upper_text (middle_of a) (6 * size / 5) e.hi

-- nothing stands in a covered cell
abbrev pub number_text : ℕ → Area → Option Printed → List ℕ
number_text size area None = []
number_text size area (Some e) = ends_text size area e

abbrev pub placed_number : Room → ℕ → ℕ → Option Printed → List ℕ
placed_number room column row value = number_text (number_size room) (cell_area room column row) value

unfoldable pub number : Room → Report → ℕ → List ℕ
number room report k = placed_number room (k % report.columns) (k / report.columns) (slice_index_or report.points k None)

-- ---- boxes

-- the outline of a box, twice, so that it is seen on light cells and on dark ones
unfoldable pub outline_text : Area → List ℕ
outline_text a = joined (codes "<rect class='halo' " ∷ area_text a ∷ codes "/><rect class='edge' " ∷ area_text a ∷ codes "/>\n" ∷ [])

-- what stands past the end of a list of boxes
abbrev pub no_box : Block
no_box = record { lo = record { x = 0; y = 0; z = 0 }; hi = record { x = 0; y = 0; z = 0 }; reflect = 0 }

unfoldable pub outline : Room → ℕ → List ℕ
outline room k = outline_text (box_area room.size.y (slice_index_or room.blocks k no_box))
