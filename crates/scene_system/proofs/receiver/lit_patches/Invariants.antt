-- The receivers so far are the first patches.
use Rattle.scene_system.specs.Receivers.{centres, facings, AreReceiversAt}
use Rattle.scene_system.proofs.receiver.lit_patches.Given as goal

abbrev pub invariant-loop-i : goal.invariant-loop-i
invariant-loop-i l = AreReceiversAt l.index (centres l.patches) (facings l.patches) l.i l.all.items
