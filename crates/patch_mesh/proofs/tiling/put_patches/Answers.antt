use Rattle.std.proofs.Common.{sym, append-nil}
use Rattle.patch_mesh.proofs.Rows.{rows_step, rows_done}
use Rattle.patch_mesh.specs.Patches.{tiling_patches}
use Rattle.patch_mesh.proofs.tiling.put_patches.Goals as goal

pub loop-j-init : goal.loop-j-init
loop-j-init c = sym (append-nil _)

pub loop-j-preserved : goal.loop-j-preserved
loop-j-preserved c = rows_step _ _ _ _ _ _ c.loop-j.invariant c.in_ok-put_row.ensures

pub returns : goal.returns
unfolding tiling_patches
returns c = rows_done _ _ _ _ _ _ c.loop-j.invariant c.loop-j-test.false c.loop-j.auto.j-end
