use Rattle.std.proofs.Common.{sym, append-nil}
use Rattle.patch_mesh.proofs.Rows.{row_step, row_done}
use Rattle.patch_mesh.proofs.grid.put_row.Goals as goal

pub loop-i-init : goal.loop-i-init
loop-i-init c = sym (append-nil _)

pub loop-i-preserved : goal.loop-i-preserved
loop-i-preserved c = row_step _ _ _ _ _ _ c.loop-i.invariant c.task_point.ensures c.in_ok-push.ensures.items

pub returns : goal.returns
returns c = row_done _ _ _ _ _ c.loop-i.invariant c.loop-i-test.false c.loop-i.auto.i-end
