-- The next receiver is the next patch.
use Rattle.scene_system.proofs.Lit.{patches_more}
use Rattle.scene_system.proofs.receiver.lit_patches.Goals as goal

pub loop-i-preserved : goal.loop-i-preserved
loop-i-preserved c =
    rw c.in_ok-push.ensures.items
    (patches_more c.args.index.now c.args.patches.now c.loop-i.i c.loop-i.all.items c.vantage-seen.result _ c.loop-i.invariant c.loop-i-test.true c.requires.within c.vantage-seen.ensures.vantage c.vantage-seen.ensures.at)
