-- The next vantage is that of the next point.
use Rattle.scene_system.proofs.Seen.{vantages_more}
use Rattle.scene_system.proofs.sight.vantages_of.Goals as goal

pub loop-at-preserved : goal.loop-at-preserved
loop-at-preserved c =
    rw c.in_ok-push.ensures.items
    (vantages_more c.args.index.now c.args.points.now c.loop-at.at-index c.loop-at.vantages.items c.vantage.result _ c.loop-at.invariant c.loop-at-test.true c.vantage.ensures.vantage c.vantage.ensures.at)
