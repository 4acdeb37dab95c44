-- The two figures of a room.
use Rattle.std.specs.Prelude.{ℕ, List, [], ◌∷◌, Bool, true, false, codes, decimal, length, if◌then◌else◌}
use Rattle.report_form.specs.declared.report.Report.{Report}
use Rattle.room_layout.specs.declared.room.Room.{Room}
use Rattle.plan_drawing.specs.Captions.{legend, light_caption, things_caption}
use Rattle.plan_drawing.specs.Frame.{figure_end, hatching, plan_end, plan_floor, plan_head, scale_bar, wall, x_label, x_letters, y_label, y_letters}
use Rattle.plan_drawing.specs.Light.{cell, number, outline}
use Rattle.plan_drawing.specs.Pieces.{first, joined}
use Rattle.plan_drawing.specs.Sizes.{bar_length, is_fine, number_size, numbers_fit, unit, view_height, view_width}
use Rattle.plan_drawing.specs.Things.{lamp, task_outline, thing}
pub use Rattle.plan_drawing.specs.Sizes.{numbers_fit}

-- ---- light

abbrev pub light_class : Bool → List ℕ
light_class true = codes "light fine"
light_class false = codes "light"

unfoldable pub light_head : Room → List ℕ
light_head room = joined
    (plan_head (light_class (is_fine room)) (codes "Plan with the illuminance at each task point") (view_width room.size) (view_height room.size)
    ∷ hatching (unit room.size) ∷ plan_floor room.size ∷ [])

unfoldable pub cells : Room → Report → List ℕ
cells room report = first (length report.points) (cell room report)

unfoldable pub outlines : Room → List ℕ
outlines room = first (length room.blocks) (outline room)

-- a group of numbers of this size
unfoldable pub numbers_head : ℕ → List ℕ
numbers_head size = joined (codes "<g class='values' font-size='" ∷ decimal size ∷ codes "'>\n" ∷ [])

unfoldable pub numbers_end : List ℕ
numbers_end = codes "</g>\n"

unfoldable pub each_number : Room → Report → List ℕ
each_number room report = first (length report.points) (number room report)

unfoldable pub all_numbers : Room → Report → List ℕ
all_numbers room report = joined (numbers_head (number_size room) ∷ each_number room report ∷ numbers_end ∷ [])

-- the numbers of all cells, where they are large enough
unfoldable pub numbers : Room → Report → List ℕ
numbers room report = if numbers_fit room then all_numbers room report else []

-- the scale bar, the words below, and the legend
unfoldable pub light_end : Room → List ℕ
light_end room = joined
    (scale_bar (unit room.size) (bar_length room.size) room.size.y ∷ plan_end ∷ light_caption (numbers_fit room) ∷ legend ∷ figure_end ∷ [])

-- the light at the task points: cells, boxes, walls and numbers, each over what stands before it
unfoldable pub light_figure : Room → Report → List ℕ
light_figure room report = joined
    (light_head room ∷ cells room report ∷ outlines room ∷ wall room.size ∷ numbers room report ∷ light_end room ∷ [])

-- ---- things

-- the head of a plan so wide and so high
unfoldable pub things_plan : ℕ → ℕ → List ℕ
things_plan width height = plan_head (codes "things") (codes "Plan of the boxes, the lamps and the task area") width height

unfoldable pub things_head : Room → List ℕ
things_head room = joined
    (things_plan (view_width room.size) (view_height room.size) ∷ plan_floor room.size ∷ [])

unfoldable pub things : Room → List ℕ
things room = first (length room.blocks) (thing room)

unfoldable pub lamps : Room → List ℕ
lamps room = first (length room.lamps) (lamp room)

unfoldable pub things_end : Room → List ℕ
things_end room = joined
    (x_label (x_letters room.size) (unit room.size) room.size ∷ y_label (y_letters room.size) (unit room.size) room.size ∷ plan_end ∷ things_caption ∷ figure_end ∷ [])

-- the boxes, the task area, the walls and the lamps, each over what stands before it
unfoldable pub things_figure : Room → List ℕ
things_figure room = joined
    (things_head room ∷ things room ∷ task_outline room ∷ wall room.size ∷ lamps room ∷ things_end room ∷ [])
