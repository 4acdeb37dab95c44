-- One piece after the other.
use Rattle.plan_drawing.proofs.Growth.{after}
use Rattle.report_page.specs.Opening.{page_head}
use Rattle.report_page.proofs.opening.push_head.Goals as goal

pub returns : goal.returns
unfolding page_head
returns c = after _ _ _ _ _ (after _ _ _ _ _ (after _ _ _ _ _ (after _ _ _ _ _ (after _ _ _ _ _ (c.in_ok-push_fixed.ensures) (c.in_ok-push_fixed-2.ensures)) (c.in_ok-push_escaped.ensures)) (c.in_ok-push_fixed-3.ensures)) (c.in_ok-push_style.ensures)) (c.in_ok-push_fixed-4.ensures)
