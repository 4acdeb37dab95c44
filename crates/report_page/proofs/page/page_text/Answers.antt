-- The page is that of the lines which sum up the tables.
use Rattle.report_page.proofs.Pages.{whole_page}
use Rattle.report_page.proofs.page.page_text.Goals as goal

pub returns : goal.returns
returns c = whole_page _ _ _ _ _ _ _ _ _ _ c.in_ok-summaries.ensures c.new-text.ensures.bytes c.in_ok-push_front.ensures (rw c.as_slice.ensures.value at c.in_ok-push_tables.ensures) c.in_ok-push_account.ensures
