-- The cards of a page: the average, the uniformity, and each limit that is asked for with its verdict.
use Rattle.std.specs.Prelude.{ℕ, List, [], ◌∷◌, ◌++◌, codes, Option, Some, None}
use Rattle.decimal_text.specs.Decimals.{hundredths, thousandths}
use Rattle.limit_verdict.specs.Verdicts.{verdict_word, verdicts_of}
use Rattle.limit_verdict.specs.declared.verdict.Verdict.{Verdict}
use Rattle.limit_verdict.specs.declared.verdict.Verdict.TheVariants.{Met, Missed, Undecided}
use Rattle.limit_verdict.specs.declared.verdict.Verdicts.{Verdicts}
use Rattle.plan_drawing.specs.Pieces.{joined}
use Rattle.report_form.specs.Judged.{ends_of}
use Rattle.report_form.specs.declared.report.Printed.{Printed}
use Rattle.report_form.specs.declared.report.Report.{Report}
use Rattle.room_layout.specs.declared.room.Room.{Room}
use Rattle.report_page.specs.Fixed.{fixed}

-- ---- what was found

-- the printed ends of an illuminance
abbrev pub lux_text : Printed → List ℕ
lux_text e = joined (hundredths e.lo ∷ codes " to " ∷ hundredths e.hi ∷ codes " lx" ∷ [])

-- those of the uniformity, where one is printed
abbrev pub share_text : Option Printed → List ℕ
share_text None = codes "none: the average may be 0"
share_text (Some e) = joined (thousandths e.lo ∷ codes " to " ∷ thousandths e.hi ∷ [])

-- a card for each
abbrev pub found_cards : Report → List ℕ
found_cards report = joined
    (codes "<div><dt>Average</dt><dd>" ∷ lux_text report.average ∷ codes "</dd></div>\n<div><dt>Uniformity</dt><dd>" ∷ share_text report.uniformity
    ∷ codes "</dd></div>\n" ∷ [])

-- ---- what was asked for

-- a verdict's sign: a tick, a cross or a question mark
abbrev pub sign : Verdict → List ℕ
sign Met = codes "&#10003;"
sign Missed = codes "&#10007;"
sign Undecided = codes "?"

-- its sign and its word
unfoldable pub signed_word : Verdict → List ℕ
signed_word v = joined (sign v ∷ codes " " ∷ verdict_word v ∷ [])

-- the beginning of a limit's card, which has the class of its verdict
unfoldable pub asked_for : (title : List ℕ) → Verdict → List ℕ
asked_for title v = joined (codes "<div class='" ∷ verdict_word v ∷ codes "'><dt>" ∷ title ∷ codes " asked for: at least " ∷ [])

-- its end
unfoldable pub answered : (unit : List ℕ) → ℕ → Verdict → List ℕ
answered unit least v = joined (thousandths least ∷ unit ∷ codes "</dt><dd>" ∷ signed_word v ∷ codes "</dd></div>\n" ∷ [])

-- the card of a limit
unfoldable pub asked_card : (title unit : List ℕ) → ℕ → Verdict → List ℕ
asked_card title unit least v = asked_for title v ++ answered unit least v

-- there is none where the limit isn't given
abbrev pub limit_card : (title unit : List ℕ) → Option ℕ → Option Verdict → List ℕ
limit_card title unit (Some least) (Some v) = asked_card title unit least v
limit_card title unit (Some least) None = []
limit_card title unit None v = []

-- the verdicts on a room's limits, by the printed ends of its report
abbrev pub page_verdicts : Room → Report → Verdicts
page_verdicts room report = let ends = ends_of report in verdicts_of room.limits ends.average_lo ends.average_hi ends.uniformity

-- ---- all cards

unfoldable pub cards : Room → Report → List ℕ
cards room report =
    fixed (codes "<dl>\n") ++ found_cards report ++ limit_card (codes "Average") (codes " lx") room.limits.average (page_verdicts room report).average
    ++ limit_card (codes "Uniformity") [] room.limits.uniformity (page_verdicts room report).uniformity ++ fixed (codes "</dl>\n")
