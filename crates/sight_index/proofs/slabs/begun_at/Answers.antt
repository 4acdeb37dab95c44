use Rattle.std.proofs.Common.{◌≤◌, arith}
use Rattle.sight_index.specs.Slabs.{along}
use Rattle.sight_index.proofs.Gathered.{no_block, all_boxes, box_added, box_left}
use Rattle.sight_index.proofs.slabs.begun_at.Goals as goal
use Rattle.sight_index.proofs.slabs.begun_at.Goals.{then-from-place, else-from-place}

pub loop-b-preserved : goal.loop-b-preserved
loop-b-preserved c =
    elim c.if-from-place.branch [
      | then-from-place w ↦ rw w.mask-is (box_added c.loop-b.b (λ b. along c.args.axis b.lo ≤ c.args.place) c.args.blocks.now c.loop-b.mask no_block
          c.loop-b-test.true (omega arith) (omega (arith, w.if-from-place.true)) c.loop-b.invariant)
      | else-from-place w ↦ rw w.mask-is (box_left c.loop-b.b (λ b. along c.args.axis b.lo ≤ c.args.place) c.args.blocks.now c.loop-b.mask no_block
          c.loop-b-test.true (λ h. absurd (omega (arith, w.if-from-place.false))) c.loop-b.invariant)
    ]

pub returns : goal.returns
returns c = all_boxes _ _ _ _ c.loop-b-test.false c.loop-b.invariant
