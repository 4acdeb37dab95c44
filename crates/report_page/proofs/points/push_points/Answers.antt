-- One piece after the other.
use Rattle.plan_drawing.proofs.Growth.{after}
use Rattle.report_page.specs.Points.{point_table}
use Rattle.report_page.proofs.points.push_points.Goals as goal

pub returns : goal.returns
unfolding point_table
returns c = after _ _ _ _ _ (after _ _ _ _ _ (after _ _ _ _ _ (c.in_ok-push_head.ensures) (c.in_ok-push_rows.ensures)) (c.in_ok-push_table_end.ensures)) (c.in_ok-push_fixed.ensures)
