-- One piece after the other.
use Rattle.plan_drawing.proofs.Growth.{after}
use Rattle.report_page.specs.Lamps.{lamp_table}
use Rattle.report_page.proofs.lamps.push_table.Goals as goal

pub returns : goal.returns
unfolding lamp_table
returns c = after _ _ _ _ _ (after _ _ _ _ _ (c.in_ok-push_fixed.ensures) (c.in_ok-push_rows.ensures)) (c.in_ok-push_table_end.ensures)
