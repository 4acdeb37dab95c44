-- One piece after the other.
use Rattle.plan_drawing.proofs.Growth.{after}
use Rattle.report_page.specs.Account.{account}
use Rattle.report_page.proofs.account.push_account.Goals as goal

pub returns : goal.returns
unfolding account
returns c = after _ _ _ _ _ (after _ _ _ _ _ (after _ _ _ _ _ (c.in_ok-push_claim.ensures) (c.in_ok-push_model.ensures)) (c.in_ok-push_repetition.ensures)) (c.in_ok-push_fixed.ensures)
