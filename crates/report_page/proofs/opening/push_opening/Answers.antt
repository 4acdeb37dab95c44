-- One piece after the other.
use Rattle.plan_drawing.proofs.Growth.{after}
use Rattle.report_page.specs.Opening.{opening}
use Rattle.report_page.proofs.opening.push_opening.Goals as goal

pub returns : goal.returns
unfolding opening
returns c = after _ _ _ _ _ (after _ _ _ _ _ (after _ _ _ _ _ (after _ _ _ _ _ (after _ _ _ _ _ (after _ _ _ _ _ (after _ _ _ _ _ (after _ _ _ _ _ (c.in_ok-push_fixed.ensures) (c.in_ok-push_escaped.ensures)) (c.in_ok-push_fixed-2.ensures)) (rw c.as_slice-points.ensures at c.in_ok-push_counted.ensures)) (c.in_ok-push_extent.ensures)) (rw c.len.ensures at c.in_ok-push_counted-2.ensures)) (c.in_ok-push_fixed-3.ensures)) (rw c.len-2.ensures at c.in_ok-push_counted-3.ensures)) (c.in_ok-push_fixed-4.ensures)
