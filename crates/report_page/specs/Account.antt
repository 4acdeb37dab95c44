-- What the page says of its numbers: what is proved of them, what isn't, and how to repeat it.
use Rattle.std.specs.Prelude.{ℕ, List, [], ◌∷◌, ◌++◌, codes}
use Rattle.plan_drawing.specs.Metres.{metres}
use Rattle.plan_drawing.specs.Pieces.{joined}
use Rattle.room_layout.specs.declared.room.Room.{Room}
use Rattle.report_page.specs.Escaped.{escaped}
use Rattle.report_page.specs.Fixed.{fixed}

-- the kit by which this repository is proved, as its command `rt version` names it
abbrev pub kit : List ℕ
kit = codes "rattle-kit-13f logic dac8208d650f15bf"

-- what is proved, and what isn't
unfoldable pub claim : List ℕ
claim =
    codes "<section class='account'>\n<h2>What the numbers are, and what is proved</h2>\n<p><b>Proved:</b> each printed interval meets, at every depth from 2, the enclosure of the exact value that the radiosity equations of this room give, and where these enclosures narrow to one number it holds that number; none is wider than stated amounts allow. No digit is off by rounding, by an iteration that stopped early or by floating point. A limit is met where the whole printed interval reaches it, missed where the whole interval lies below it, and else undecided; it is the designer's number and no standard's.</p>\n<p><b>Not proved:</b> that the layout describes the real room, that a real lamp shines as its number or its file says, and that the equations are the room's light.</p>\n"

-- how long the patches' edges are at most, in millimetres
unfoldable pub model_edge : ℕ → List ℕ
model_edge patch = joined (codes "<p>The equations are a model: surfaces are cut into patches with edges of at most " ∷ metres patch ∷ [])

-- how near the equations come
unfoldable pub model_words : List ℕ
model_words =
    codes " m, each of one illuminance, which hand light on between their middles and reflect it evenly in all directions. Where lamps hang clear of the surfaces, averages came within 3 per cent of a path tracer's with coarse patches, and within 1 per cent with finer ones. Where a lamp shines on a surface from less than about a patch edge away, the numbers depend on where the patches lie: compare them with those of smaller patches.</p>\n"

-- both
unfoldable pub model : ℕ → List ℕ
model patch = model_edge patch ++ model_words

-- what a reviewer calls
unfoldable pub repetition : List ℕ → List ℕ
repetition name =
    fixed (codes "<p>Checked with <code>") ++ fixed kit ++ fixed (codes "</code>. To repeat it, with the room's file and its photometric files in one folder: <code>lux report ") ++ escaped name
    ++ fixed (codes "</code> prints the same intervals, <code>lux certify ") ++ escaped name ++ fixed (codes " &gt; claim.csv</code> writes bounds of the light of every patch, and <code>lux check ")
    ++ escaped name ++ fixed (codes " claim.csv</code> checks them without solving.</p>\n")

unfoldable pub account : (name : List ℕ) → Room → List ℕ
account name room = claim ++ model room.patch ++ repetition name ++ fixed (codes "</section>\n</body>\n</html>\n")
