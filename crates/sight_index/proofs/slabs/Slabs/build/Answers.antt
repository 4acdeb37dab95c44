use Rattle.std.proofs.Common.{arith}
use Rattle.sight_index.proofs.Reached.{made_slabs}
use Rattle.sight_index.proofs.slabs.Slabs.build.Goals as goal

pub invariant_of-result : goal.invariant_of-result
invariant_of-result c = record {
  fit = made_slabs c.loop-k.k _ _ c.args.size _ _ (omega arith) c.of-edge.ensures c.requires.blocks c.loop-k.invariant;
}
