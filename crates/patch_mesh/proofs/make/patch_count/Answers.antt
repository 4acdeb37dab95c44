use Rattle.patch_mesh.proofs.Counts.{count_more, count_small}
use Rattle.patch_mesh.proofs.make.patch_count.Goals as goal

pub loop-t-preserved : goal.loop-t-preserved
loop-t-preserved c =
    let cut = c.requires.each c.loop-t.t-index _ c.loop-t-test.true in
    record {
      value = count_more c.args.tilings.now c.loop-t.t-index c.loop-t.count _ c.loop-t-test.true c.loop-t.invariant.value;
      small = count_small c.loop-t.count c.loop-t.t-index _ _ c.loop-t.invariant.small cut.columns cut.rows;
    }
