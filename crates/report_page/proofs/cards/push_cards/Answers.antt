-- One piece after the other.
use Rattle.plan_drawing.proofs.Growth.{after}
use Rattle.report_page.specs.Cards.{cards}
use Rattle.report_page.proofs.cards.push_cards.Goals as goal

pub returns : goal.returns
unfolding cards
returns c = after _ _ _ _ _ (after _ _ _ _ _ (after _ _ _ _ _ (after _ _ _ _ _ (c.in_ok-push_fixed.ensures) (c.in_ok-push_found.ensures)) (rw c.page_verdicts-verdicts.ensures at c.in_ok-push_limit.ensures)) (rw (c.page_verdicts-verdicts.ensures, c.uniformity_limit-share.ensures) at c.in_ok-push_limit-2.ensures)) (c.in_ok-push_fixed-2.ensures)
