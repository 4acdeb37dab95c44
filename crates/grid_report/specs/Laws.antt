-- What holds of values, of their average and uniformity, and of reports.
use Rattle.std.specs.Prelude.{ℕ, ◌<◌, ◌≡◌, false, List}
use Rattle.fx_base.specs.Interval.{InOrder}
use Rattle.interval_system.specs.Values.{Grid, open_count, uniformity}
use Rattle.room_layout.specs.declared.room.Room.{Room}
use Rattle.photo_table.specs.Table.{Table}
use Rattle.grid_report.specs.Headline.{IsRight}
use Rattle.scene_system.specs.PointValues.{ArePoints}
use Rattle.report_form.specs.Judged.{ends_of}
use Rattle.report_form.specs.declared.judged.Ends.{Ends}
use Rattle.report_form.specs.declared.report.Report.{Report}
use Rattle.grid_report.specs.Reports.{AreEndsOf, IsReportOf}
use Rattle.scene_system.specs.Sums.{open_total}
use Rattle.scene_system.specs.declared.value.PointValue.{PointValue}

-- the report of such values is right
abbrev pub ReportIsRight : Type 0
ReportIsRight = (tables : List Table) (room : Room) (values : List PointValue) (r : Report) → ArePoints tables room values → 0 < open_total values → IsReportOf room.task.nx values r → IsRight tables room r

-- where the values at the points that aren't covered are in order, and there is one, the uniformity is
abbrev pub UniformityIsInOrder : Type 0
UniformityIsInOrder = (s : Grid) → 0 < open_count s.covered s.points → ((g : ℕ) → g < s.points → s.covered g ≡ false → InOrder (s.value g)) → InOrder (uniformity s)

-- limits are held against the same ends whether these are taken from values or from their report
abbrev pub EndsAreTheReports : Type 0
EndsAreTheReports = (columns : ℕ) (values : List PointValue) (r : Report) (e : Ends) → IsReportOf columns values r → AreEndsOf values e → ends_of r ≡ e
