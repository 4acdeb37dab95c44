use Rattle.std.proofs.Common.{refl}
use Rattle.sight_index.proofs.Built.{index_of, of_boxes}
use Rattle.sight_index.proofs.index.SightIndex.build.Goals as goal

pub invariant_of-result : goal.invariant_of-result
invariant_of-result c = record { few = c.requires.few; only = of_boxes _ _ _ _ c.in_ok-build.ensures.slabs }

pub returns : goal.returns
returns c = record {
  index = index_of c.args.size c.args.blocks.now _ c.in_ok-build.ensures.edge c.in_ok-build-2.ensures.edge c.in_ok-build-3.ensures.edge refl
      c.in_ok-build.ensures.slabs c.in_ok-build-2.ensures.slabs c.in_ok-build-3.ensures.slabs;
}
