-- A page, put together of its parts.
use Rattle.std.proofs.Common.{ℕ, ◌≡◌, ◌∙◌, List, [], ◌++◌, ap, refl}
use Rattle.plan_drawing.proofs.Growth.{after}
use Rattle.photo_table.specs.Table.{Table}
use Rattle.report_form.specs.declared.report.Report.{Report}
use Rattle.room_layout.specs.declared.room.Room.{Room}
use Rattle.report_page.specs.Account.{account}
use Rattle.report_page.specs.Files.{AreSummaries}
use Rattle.report_page.specs.Page.{front, page_text, tables, IsPage}

pub whole_page : (name : List ℕ) (patches : ℕ) (photos : List Table) (summaries : List (List ℕ)) (room : Room) (report : Report) (empty first second text : List ℕ)
    → AreSummaries photos summaries → empty ≡ [] → first ≡ empty ++ front name room report → second ≡ first ++ tables patches summaries room report
    → text ≡ second ++ account name room → IsPage name patches photos room report text
unfolding page_text
whole_page name patches photos summaries room report empty first second text lines e f g h = record {
  summaries = summaries;
  count = lines.count;
  each = lines.each;
  text_is = after second [] (front name room report ++ tables patches summaries room report) (account name room) text
      (after first [] (front name room report) (tables patches summaries room report) second (f ∙ ap (λ (t : List ℕ). t ++ front name room report) e) g) h;
}
