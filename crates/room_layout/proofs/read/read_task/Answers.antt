use Rattle.std.proofs.lemmas.Result.{err_from_is_err_and}
use Rattle.room_layout.specs.Layout.{task_of}
use Rattle.room_layout.proofs.read.read_task.Goals as goal

pub returns-in_err-task : goal.returns-in_err-task
unfolding task_of
returns-in_err-task c = let p = err_from_is_err_and c.from_residual.result c.from_residual.ensures.1 in rw (p.1, p.2, rw c.of.ensures at c.in_err-task.ensures.refused)

pub returns-in_err-height : goal.returns-in_err-height
unfolding task_of
returns-in_err-height c =
    let p = err_from_is_err_and c.from_residual-in_err-height.result c.from_residual-in_err-height.ensures.1 in
    let task = rw c.of.ensures at c.in_ok-task.ensures.given in
    let from = rw (c.of-2.ensures, c.longest_edge-longest.ensures) at c.in_ok-from.ensures in
    let to = rw (c.of-3.ensures, c.longest_edge-longest.ensures) at c.in_ok-to.ensures in
    let height = rw (c.of-4.ensures, c.longest_edge-longest.ensures) at c.in_err-height.ensures in
    rw (p.1, p.2, task, ← from, ← to, ← height)
