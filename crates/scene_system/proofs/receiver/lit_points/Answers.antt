-- The next receiver is the next task point.
use Rattle.scene_system.proofs.Lit.{points_more}
use Rattle.scene_system.proofs.receiver.lit_points.Goals as goal

pub loop-g-preserved : goal.loop-g-preserved
loop-g-preserved c =
    rw c.in_ok-push.ensures.items
    (points_more c.args.index.now c.args.points.now c.loop-g.g c.loop-g.all.items c.vantage-seen.result _ c.loop-g.invariant c.loop-g-test.true c.requires.within c.vantage-seen.ensures.vantage c.vantage-seen.ensures.at)
