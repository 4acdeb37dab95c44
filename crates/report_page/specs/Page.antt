-- The page of a room's report.
use Rattle.std.specs.Prelude.{ℕ, ◌≡◌, ◌<◌, List, ◌++◌, length, slice_index_or}
use Rattle.photo_table.specs.Kept.{IsSummary}
use Rattle.photo_table.specs.Table.{Table}
use Rattle.plan_drawing.specs.Figures.{light_figure, things_figure}
use Rattle.report_form.specs.declared.report.Report.{Report}
use Rattle.room_layout.specs.declared.room.Room.{Room}
use Rattle.report_page.specs.Account.{account}
use Rattle.report_page.specs.Cards.{cards}
use Rattle.report_page.specs.Files.{files_told, no_table, summary_at}
use Rattle.report_page.specs.Lamps.{lamps_told}
use Rattle.report_page.specs.Opening.{opening, page_head}
use Rattle.report_page.specs.Points.{wanted_points}
use Rattle.report_page.specs.Surfaces.{boxes_told, surface_table}

-- what it says first, and the two plans
unfoldable pub front : (name : List ℕ) → Room → Report → List ℕ
front name room report = page_head name ++ opening name room report ++ cards room report ++ light_figure room report ++ things_figure room

-- the tables, where `patches` is how many patches the room has, and `summaries` has the line that sums up the table of each file
unfoldable pub tables : (patches : ℕ) → (summaries : List (List ℕ)) → Room → Report → List ℕ
tables patches summaries room report =
    lamps_told room ++ files_told summaries room ++ surface_table patches room report ++ boxes_told room ++ wanted_points room report

-- the whole page; its last part says what is proved
unfoldable pub page_text : (name : List ℕ) → (patches : ℕ) → (summaries : List (List ℕ)) → Room → Report → List ℕ
page_text name patches summaries room report = front name room report ++ tables patches summaries room report ++ account name room

-- the page of the report, with the line that sums up the table of each file
pub record IsPage (name : List ℕ) (patches : ℕ) (photos : List Table) (room : Room) (report : Report) (text : List ℕ) : Type 0 where
  pub summaries : List (List ℕ)
  pub count : length summaries ≡ length photos
  pub each : (k : ℕ) → k < length summaries → IsSummary (slice_index_or photos k no_table) (summary_at summaries k)
  pub text_is : text ≡ page_text name patches summaries room report
