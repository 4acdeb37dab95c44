use Rattle.std.proofs.Common.{◌*◌, ◌≤◌, arith, subst, sym}
use Rattle.sight_index.specs.Cells.{begins}
use Rattle.sight_index.specs.Masks.{HasBit}
use Rattle.sight_index.specs.Slabs.{IsBegun}
use Rattle.sight_index.specs.declared.sides.Sides.{Sides}
use Rattle.sight_index.proofs.Gathered.{slab_added, slab_left, slab_read}
use Rattle.sight_index.proofs.slabs.Slabs.begun.Goals as goal
use Rattle.sight_index.proofs.slabs.Slabs.begun.Goals.{then-begins-at, else-begins-at}

pub loop-k-preserved : goal.loop-k-preserved
loop-k-preserved c =
    elim c.if-begins-at.branch [
      | then-begins-at w ↦
          let read = slab_read c.args.self.now.kept.items c.loop-k.k w.index.result.now c.args.self.now.fit.count c.loop-k-test.true w.index.ensures in
          rw w.mask-is (slab_added c.loop-k.k (λ k b. (2 * begins c.args.self.now.edge k ≤ c.args.at) × IsBegun c.args.self.now.kept.items k b)
          c.loop-k.mask w.index.result.now.begun (λ b. (
            λ h. (omega (arith, w.if-begins-at.true), subst (λ (s : Sides). HasBit s.begun b) (sym read) h),
            λ h. subst (λ (s : Sides). HasBit s.begun b) read h.1,
          )) c.loop-k.invariant)
      | else-begins-at w ↦
          rw w.mask-is (slab_left c.loop-k.k (λ k b. (2 * begins c.args.self.now.edge k ≤ c.args.at) × IsBegun c.args.self.now.kept.items k b)
          c.loop-k.mask (λ b h. absurd (omega (arith, w.if-begins-at.false, h.0))) c.loop-k.invariant)
    ]
