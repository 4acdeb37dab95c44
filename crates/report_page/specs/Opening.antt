-- The beginning of a page: its head, and what it is about.
use Rattle.std.specs.Prelude.{ℕ, ◌==◌, if◌then◌else◌, List, [], ◌∷◌, ◌++◌, length, codes, decimal}
use Rattle.plan_drawing.specs.Metres.{metres}
use Rattle.plan_drawing.specs.Pieces.{joined}
use Rattle.report_form.specs.declared.report.Report.{Report}
use Rattle.room_layout.specs.declared.room.Room.{Room}
use Rattle.report_page.specs.Escaped.{escaped}
use Rattle.report_page.specs.Style.{style}
use Rattle.report_page.specs.Fixed.{fixed}

-- up to the body: it says that its bytes are UTF-8, and names the room
unfoldable pub page_head : List ℕ → List ℕ
page_head name =
    fixed (codes "<!DOCTYPE html>\n<html xmlns='http://www.w3.org/1999/xhtml' lang='en'>\n<head>\n<meta charset='utf-8'/>\n")
    ++ fixed (codes "<meta name='viewport' content='width=device-width, initial-scale=1'/>\n<title>") ++ escaped name ++ fixed (codes " - Lux</title>\n<style>\n") ++ style
    ++ fixed (codes "</style>\n</head>\n<body>\n")

-- so many of a thing, as `1 lamp` and `2 lamps`
abbrev pub counted : ℕ → (one many : List ℕ) → List ℕ
counted n one many = joined (decimal n ∷ codes " " ∷ (if n == 1 then one else many) ∷ [])

-- how high the task points lie, and in how large a room
abbrev pub extent : Room → List ℕ
extent room = joined
    (codes ", " ∷ metres room.task.height ∷ codes " m above the floor of a room of " ∷ metres room.size.x ∷ codes " by " ∷ metres room.size.y ∷ codes " m, "
    ∷ metres room.size.z ∷ codes " m high, with " ∷ [])

-- the heading, and one sentence with the counts
unfoldable pub opening : List ℕ → Room → Report → List ℕ
opening name room report =
    fixed (codes "<h1>Light in ") ++ escaped name ++ fixed (codes "</h1>\n<p>Illuminance at ") ++ counted (length report.points) (codes "task point") (codes "task points")
    ++ extent room ++ counted (length room.lamps) (codes "lamp") (codes "lamps") ++ fixed (codes " and ") ++ counted (length room.blocks) (codes "box") (codes "boxes")
    ++ fixed (codes ".</p>\n")
