-- How a report is spelled, in lines.
use Rattle.std.specs.Prelude.{ℕ, ◌+◌, ◌/◌, ◌%◌, List, [], ◌∷◌, ◌++◌, codes, decimal, Option, Some, None}
use Rattle.fx_base.specs.Fraction.{ratio}
use Rattle.fx_base.specs.Interval.{Interval}
use Rattle.decimal_text.specs.Decimals.{hundredths, thousandths}
use Rattle.decimal_text.specs.Lines.{line}
use Rattle.report_form.specs.declared.report.Printed.{Printed}
use Rattle.report_form.specs.declared.report.Report.{Report}

-- the interval that two printed numbers say, in hundredths or in thousandths
abbrev pub said : ℕ → Printed → Interval
said parts e = record { lo = ratio e.lo parts; hi = ratio e.hi parts }

-- what is said of a point: its two ends in lux, or that a box covers it
abbrev pub value_text : Option Printed → List ℕ
value_text None = codes "covered"
value_text (Some e) = hundredths e.lo ++ codes " " ++ hundredths e.hi

-- the line of the k-th point: its column, its row and its value
abbrev pub point_line : ℕ → ℕ → Option Printed → List ℕ
point_line columns k e = line (codes "point " ++ decimal (k % columns) ++ codes " " ++ decimal (k / columns) ++ codes " " ++ value_text e)

-- the lines of the points from the k-th on
unfoldable pub point_lines : ℕ → ℕ → List (Option Printed) → List ℕ
point_lines columns k [] = []
point_lines columns k (e ∷ more) = point_line columns k e ++ point_lines columns (k + 1) more

-- what is said of the uniformity: its two ends, or that there is none
abbrev pub uniformity_text : Option Printed → List ℕ
uniformity_text None = codes "none"
uniformity_text (Some e) = thousandths e.lo ++ codes " " ++ thousandths e.hi

-- the lines of the average and of the uniformity
abbrev pub overall_text : Report → List ℕ
overall_text r = line (codes "average " ++ hundredths r.average.lo ++ codes " " ++ hundredths r.average.hi) ++ line (codes "uniformity " ++ uniformity_text r.uniformity)

-- the lines of a report: those of its points, of the average and of the uniformity
abbrev pub report_text : Report → List ℕ
report_text r = point_lines r.columns 0 r.points ++ overall_text r
