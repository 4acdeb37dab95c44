-- The ends of a report that limits are held against.
use Rattle.std.specs.Prelude.{◌*◌, ◌^◌, ◌<◌, ◌≤◌, IfSome, option_map}
use Rattle.report_form.specs.declared.report.Printed.{Printed}
use Rattle.report_form.specs.declared.report.Report.{Report}
use Rattle.report_form.specs.declared.judged.Ends.{Ends}

-- the ends in thousandths: those of the average are printed in hundredths
abbrev pub ends_of : Report → Ends
ends_of r = record { average_lo = r.average.lo * 10; average_hi = r.average.hi * 10; uniformity = option_map (λ (e : Printed). (e.lo, e.hi)) r.uniformity }

-- no lower end is above its upper end
pub record AreInOrder (e : Ends) : Type 0 where
  pub average : e.average_lo ≤ e.average_hi
  pub uniformity : IfSome e.uniformity (λ u. u.0 ≤ u.1)

-- the printed ends are in order, the uniformity is at most 1, and ten times the average's ends fits 128 bits
pub record CanBeJudged (r : Report) : Type 0 where
  pub average : r.average.lo ≤ r.average.hi
  pub average_most : r.average.hi < 2 ^ 124
  pub uniformity : IfSome r.uniformity (λ e. e.lo ≤ e.hi)
  pub uniformity_most : IfSome r.uniformity (λ e. e.hi ≤ 1000)
