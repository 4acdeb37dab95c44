-- How a report of a room is written, and the status that goes with it.
use Rattle.std.specs.Prelude.{ℕ, ◌≡◌, ◌*◌, List, ◌++◌, codes, decimal}
use Rattle.decimal_text.specs.Lines.{line}
use Rattle.report_form.specs.Spelled.{report_text, overall_text}
use Rattle.report_form.specs.Grid.{grid_bytes}
use Rattle.report_form.specs.Judged.{ends_of}
use Rattle.report_form.specs.declared.judged.Ends.{Ends}
use Rattle.report_form.specs.declared.report.Report.{Report}
use Rattle.grid_report.specs.Headline.{IsRight}
use Rattle.limit_verdict.specs.Verdicts.{verdicts_of, verdict_lines, overall}
use Rattle.limit_verdict.specs.declared.verdict.Verdict.{Verdict}
use Rattle.limit_verdict.specs.declared.verdict.Verdict.TheVariants.{Met, Missed, Undecided}
use Rattle.photo_table.specs.Table.{Table}
use Rattle.report_page.specs.Page.{IsPage}
use Rattle.room_layout.specs.declared.room.Limits.{Limits}
use Rattle.room_layout.specs.declared.room.Room.{Room}
use Rattle.scene_system.specs.Scene.{patch_count}
use Rattle.scene_system.specs.Tables.{AreTablesOf}
use Rattle.lux_core.specs.declared.status.Status.{Status}
use Rattle.lux_core.specs.declared.status.Status.TheVariants as status
use Rattle.lux_core.specs.declared.words.Spelling.{Spelling}
use Rattle.lux_core.specs.declared.words.Spelling.TheVariants as spelling

-- ---- the text

-- the lines of the limits, by the printed ends
abbrev pub limit_lines : Limits → Ends → List ℕ
limit_lines limits ends = verdict_lines limits ends.average_lo ends.average_hi ends.uniformity

-- the lines of the report, then a line for each limit
abbrev pub in_lines : Room → Report → List ℕ
in_lines room report = report_text report ++ limit_lines room.limits (ends_of report)

-- the counts of patches and of task points, then the lines of the average and of the uniformity
abbrev pub in_summary : ℕ → Room → Report → List ℕ
in_summary n room report =
    line (codes "trial " ++ decimal n ++ codes " patches " ++ decimal (patch_count room) ++ codes " points " ++ decimal (room.task.nx * room.task.ny)) ++ overall_text report

-- the page of the room file of this name, which sums up the tables of the lamps' files as the program keeps them
pub record IsInPage (name : List ℕ) (tables : List Table) (room : Room) (report : Report) (text : List ℕ) : Type 0 where
  pub photos : List Table
  pub are : AreTablesOf photos tables
  pub page : IsPage name (patch_count room) photos room report text

abbrev pub IsSaidIn : Spelling → (name : List ℕ) → List Table → Room → Report → List ℕ → Type 0
IsSaidIn spelling.Lines name tables room report text = text ≡ in_lines room report
IsSaidIn spelling.Records name tables room report text = text ≡ grid_bytes report
IsSaidIn (spelling.Summary n) name tables room report text = text ≡ in_summary n room report
IsSaidIn spelling.Page name tables room report text = IsInPage name tables room report text

-- ---- the status

abbrev pub verdict_status : Verdict → Status
verdict_status Met = status.Done
verdict_status Missed = status.Missed
verdict_status Undecided = status.Undecided

-- missed where some limit is, else undecided where one is, by the printed ends
abbrev pub limits_status : Limits → Ends → Status
limits_status limits ends = verdict_status (overall (verdicts_of limits ends.average_lo ends.average_hi ends.uniformity))

-- only where the limits are told does the status tell of them
abbrev pub status_by : Spelling → Room → Report → Status
status_by spelling.Lines room report = limits_status room.limits (ends_of report)
status_by spelling.Records room report = status.Done
status_by (spelling.Summary n) room report = status.Done
status_by spelling.Page room report = limits_status room.limits (ends_of report)

-- ---- a right report of the room, so written; the room's file has this name

pub record IsReport (form : Spelling) (name : List ℕ) (tables : List Table) (room : Room) (given : Status) (text : List ℕ) : Type 0 where
  pub report : Report
  pub right : IsRight tables room report
  pub said : IsSaidIn form name tables room report text
  pub status_is : given ≡ status_by form room report
