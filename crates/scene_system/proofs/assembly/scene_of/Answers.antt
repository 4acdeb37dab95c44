-- The task points have the rows and the light of the receivers that they are.
use Rattle.std.proofs.Common.{length}
use Rattle.room_layout.specs.declared.geometry.Face.TheVariants.{Up}
use Rattle.scene_system.specs.Receivers.{AreReceiversAt}
use Rattle.scene_system.specs.Scene.{task_point_place}
use Rattle.scene_system.proofs.Lit.{lights_placed, rows_placed, tasks_at}
use Rattle.scene_system.proofs.RowLists.{well_formed}
use Rattle.scene_system.proofs.assembly.scene_of.Goals as goal

pub returns-clause-formed : goal.returns-clause-formed
returns-clause-formed g c =
    let room = c.args.room.now in
    let points = c.args.points.items in
    let lit = c.in_ok-task.task.items in
    let at : AreReceiversAt c.in_ok-index.index (task_point_place room) (λ _. Up) (length points) lit
    = tasks_at c.in_ok-index.index room points (length points) lit c.requires.points.are (rw c.as_slice-6.ensures.value at c.in_ok-task.ensures) in
    well_formed c.args.photos.now room _ (task_point_place room) (λ _. Up) c.requires.accepted c.requires.patches c.requires.points c.requires.some
    c.in_ok-system.ensures.rows.size c.in_ok-system.ensures.system
    (rows_placed c.in_ok-index.index room (task_point_place room) (λ _. Up) (length points) lit c.in_ok-point_rows.point_rows.items at (rw c.as_slice-7.ensures.value at c.in_ok-point_rows.ensures))
    (lights_placed c.args.photos.now c.in_ok-index.index room (task_point_place room) (λ _. Up) (length points) lit c.in_ok-point_direct.point_direct.items at
    (rw c.as_slice-8.ensures.value at c.in_ok-point_direct.ensures))
