-- The report of some values: what is printed of each, of their average and of their uniformity.
use Rattle.std.specs.Prelude.{ℕ, ◌≡◌, ◌*◌, ◌/◌, if◌then◌else◌, List, map, Option, Some, None, MatchOption}
use Rattle.std.specs.Int.{div_ceil}
use Rattle.fx_base.specs.Units.{natural}
use Rattle.fx_base.specs.Rounded.{hundredths_above, hundredths_below}
use Rattle.report_form.specs.declared.judged.Ends.{Ends}
use Rattle.report_form.specs.declared.report.Printed.{Printed}
use Rattle.report_form.specs.declared.report.Report.{Report}
use Rattle.scene_system.specs.Sums.{average_low, average_high}
use Rattle.grid_report.specs.Uniformities.{IsUniformity}
use Rattle.grid_report.specs.declared.ratio.Ratio.{Ratio}
use Rattle.scene_system.specs.declared.value.PointValue.{PointValue}

-- ticks in hundredths, rounded down and up
abbrev pub in_cents : ℕ → ℕ → Printed
in_cents low high = record { lo = hundredths_below low; hi = hundredths_above high }

abbrev pub printed_value : PointValue → Option Printed
printed_value v = if v.covered then None else Some (in_cents (natural v.value.lo) (natural v.value.hi))

-- millionths in thousandths, rounded down and up
abbrev pub printed_ratio : Ratio → Printed
printed_ratio u = record { lo = u.lo / 1000; hi = div_ceil u.hi 1000 }

-- what is printed of the uniformity: nothing only where the average's lower end is 0
abbrev pub IsUniformityPrinted : List PointValue → Option Printed → Type 0
IsUniformityPrinted values printed = MatchOption printed (average_low values ≡ 0) (λ e. (u : Ratio) × IsUniformity values u.lo u.hi × (e ≡ printed_ratio u))

-- the report of these values, with so many columns
pub record IsReportOf (columns : ℕ) (values : List PointValue) (r : Report) : Type 0 where
  pub columns_are : r.columns ≡ columns
  pub points_are : r.points ≡ map printed_value values
  pub average_is : r.average ≡ in_cents (average_low values) (average_high values)
  pub uniformity_is : MatchOption r.uniformity (average_low values ≡ 0) (λ e. (u : Ratio) × IsUniformity values u.lo u.hi × (e ≡ printed_ratio u))

-- the ends that limits are held against, in thousandths: those of the average are rounded to hundredths, those of the uniformity to
-- thousandths
pub record AreEndsOf (values : List PointValue) (e : Ends) : Type 0 where
  pub average_lo : e.average_lo ≡ hundredths_below (average_low values) * 10
  pub average_hi : e.average_hi ≡ hundredths_above (average_high values) * 10
  pub uniformity : MatchOption e.uniformity (average_low values ≡ 0) (λ u. (m : Ratio) × IsUniformity values m.lo m.hi × (u.0 ≡ m.lo / 1000) × (u.1 ≡ div_ceil m.hi 1000))
