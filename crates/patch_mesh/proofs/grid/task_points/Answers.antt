use Rattle.std.proofs.Common.{◌∙◌, [], ap, length}
use Rattle.patch_mesh.proofs.Rows.{rows_step, rows_done, length-rows}
use Rattle.patch_mesh.proofs.Fits.{points_fit, points_reach}
use Rattle.patch_mesh.specs.TaskPoints.{task_point, task_points}
use Rattle.patch_mesh.proofs.grid.task_points.Goals as goal

pub loop-j-init : goal.loop-j-init
loop-j-init c = c.new-points.ensures.items

pub loop-j-preserved : goal.loop-j-preserved
loop-j-preserved c = rows_step [] _ _ _ _ _ c.loop-j.invariant c.in_ok-put_row.ensures

pub returns-clause-points : goal.returns-clause-points
unfolding task_points
returns-clause-points c = rows_done [] _ _ _ _ _ c.loop-j.invariant c.loop-j-test.false c.loop-j.auto.j-end

pub returns-clause-count : goal.returns-clause-count
unfolding task_points
returns-clause-count c =
    let room = c.args.room.now in
    c.loop-j.points.ok.0 ∙ ap length (returns-clause-points c) ∙ length-rows (task_point room) room.task.nx room.task.ny

pub returns-clause-each : goal.returns-clause-each
returns-clause-each c = points_fit _ _ c.requires.accepted (returns-clause-points c)

pub returns-clause-reach : goal.returns-clause-reach
returns-clause-reach c = points_reach _ _ c.requires.accepted (returns-clause-points c)
