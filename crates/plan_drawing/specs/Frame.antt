-- What both plans begin and end with. The classes of both figures, for the style sheet, which draws what the figures don't say themselves:
--   scroll         round the plan, which may be wider than a narrow screen
--   light, things  the two plans; fine: a plan of small numbers, wider than a narrow screen
--   floor, wall    the room's inside, and its outline
--   s0 .. s17      the colour of a cell, the colour behind a number, and in the legend
--   w, k           white and black letters on these
--   covered        a cell whose point is covered, hatched by the pattern with that name
--   halo, edge     the two outlines of a box on the light, the wider and lighter one below
--   values         the numbers in the cells
--   bar, label     the scale bar, and what is written in the margin; middle: centred on its place
--   box, boxname   a box, and its height
--   task           the outline of the task area
--   lamp, lampname, shine, aim, ring    a lamp's circle, its number, its rectangle, where it is aimed or turned, and that it shines upward
--   legend, hatch, note                 the list of the steps, its last item, and the words below it
use Rattle.std.specs.Prelude.{ℕ, ◌+◌, ◌*◌, ◌/◌, List, [], ◌∷◌, ◌++◌, codes, decimal, min}
use Rattle.room_layout.specs.declared.geometry.Size.{Size}
use Rattle.plan_drawing.specs.Metres.{area_text, metres}
use Rattle.plan_drawing.specs.Pieces.{joined}
use Rattle.plan_drawing.specs.Sizes.{floor_area, unit, view_height, view_width}

-- the figure, and a plan with this class and this name, as wide and as high as that
unfoldable pub plan_head : List ℕ → List ℕ → ℕ → ℕ → List ℕ
plan_head class name width height = joined
    (codes "<figure>\n<div class='scroll'><svg class='" ∷ class ∷ codes "' viewBox='0 0 " ∷ decimal width ∷ codes " " ∷ decimal height
    ∷ codes "' role='img' aria-label='" ∷ name ∷ codes "'>\n" ∷ [])

-- the plan's origin within its margins, and the floor
unfoldable pub plan_floor : Size → List ℕ
plan_floor s = joined
    (codes "<g transform='translate(" ∷ decimal (2 * unit s) ∷ codes " " ∷ decimal (unit s / 2) ∷ codes ")'>\n<rect class='floor' "
    ∷ area_text (floor_area s) ∷ codes "/>\n" ∷ [])

unfoldable pub wall : Size → List ℕ
wall s = joined (codes "<rect class='wall' " ∷ area_text (floor_area s) ∷ codes "/>\n" ∷ [])

unfoldable pub plan_end : List ℕ
plan_end = codes "</g>\n</svg></div>\n"

unfoldable pub figure_end : List ℕ
figure_end = codes "</figure>\n"

-- the pattern of covered cells: slanting lines at a distance of u
unfoldable pub hatching : ℕ → List ℕ
hatching u = joined
    (codes "<defs><pattern id='covered' width='" ∷ decimal u ∷ codes "' height='" ∷ decimal u
    ∷ codes "' patternUnits='userSpaceOnUse' patternTransform='rotate(45)'><path d='M0 0V" ∷ decimal u ∷ codes "' stroke='#555' stroke-width='"
    ∷ decimal (u / 3) ∷ codes "'/></pattern></defs>\n" ∷ [])

-- a bar of this length in the margin below, and how long it is
unfoldable pub bar_drawn : ℕ → ℕ → List ℕ
bar_drawn y bar = joined (codes "<path class='bar' d='M0 " ∷ decimal y ∷ codes "h" ∷ decimal bar ∷ codes "'/>" ∷ [])

unfoldable pub bar_label : (size x y bar : ℕ) → List ℕ
bar_label size x y bar = joined
    (codes "<text class='label' font-size='" ∷ decimal size ∷ codes "' x='" ∷ decimal x ∷ codes "' y='" ∷ decimal y ∷ codes "'>" ∷ metres bar
    ∷ codes " m</text>\n" ∷ [])

abbrev pub scale_bar : (u bar edge : ℕ) → List ℕ
scale_bar u bar edge = bar_drawn (edge + u) bar ++ bar_label (4 * u / 5) (bar + u / 2) (edge + 5 * u / 4) bar

-- how high the letters are that stand along an edge of this length, with the margin on either side of it: a unit at most
abbrev pub edge_letters : (u margin edge : ℕ) → ℕ
edge_letters u margin edge = min u ((edge + margin) / 6)

abbrev pub x_letters : Size → ℕ
x_letters s = edge_letters (unit s) (4 * unit s) s.x

abbrev pub y_letters : Size → ℕ
y_letters s = edge_letters (unit s) (unit s) s.y

-- the length along x in the margin below, and the length along y in that on the left, with letters of this size
unfoldable pub x_label : (letters u : ℕ) → Size → List ℕ
x_label letters u s = joined
    (codes "<text class='label middle' font-size='" ∷ decimal letters ∷ codes "' x='" ∷ decimal (s.x / 2) ∷ codes "' y='" ∷ decimal (s.y + 3 * u / 2)
    ∷ codes "'>x: " ∷ metres s.x ∷ codes " m</text>\n" ∷ [])

unfoldable pub y_label : (letters u : ℕ) → Size → List ℕ
y_label letters u s = joined
    (codes "<text class='label middle' font-size='" ∷ decimal letters ∷ codes "' transform='translate(-" ∷ decimal (3 * u / 4) ∷ codes " " ∷ decimal (s.y / 2)
    ∷ codes ") rotate(-90)'>y: " ∷ metres s.y ∷ codes " m</text>\n" ∷ [])
