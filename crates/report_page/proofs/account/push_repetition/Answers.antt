-- One piece after the other.
use Rattle.plan_drawing.proofs.Growth.{after}
use Rattle.report_page.specs.Account.{repetition}
use Rattle.report_page.proofs.account.push_repetition.Goals as goal

pub returns : goal.returns
unfolding repetition
returns c = after _ _ _ _ _ (after _ _ _ _ _ (after _ _ _ _ _ (after _ _ _ _ _ (after _ _ _ _ _ (after _ _ _ _ _ (after _ _ _ _ _ (after _ _ _ _ _ (c.in_ok-push_fixed.ensures) (c.in_ok-push_fixed-2.ensures)) (c.in_ok-push_fixed-3.ensures)) (c.in_ok-push_escaped.ensures)) (c.in_ok-push_fixed-4.ensures)) (c.in_ok-push_escaped-2.ensures)) (c.in_ok-push_fixed-5.ensures)) (c.in_ok-push_escaped-3.ensures)) (c.in_ok-push_fixed-6.ensures)
