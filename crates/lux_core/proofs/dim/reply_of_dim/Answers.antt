-- What of `reply_of_dim` wants a proof by hand.
use Rattle.std.proofs.Common.{refl, inr}
use Rattle.lux_core.specs.Dims.{IsPlanAnswer}
use Rattle.lux_core.specs.Runs.{run}
use Rattle.scene_system.specs.Tables.{AreTablesOf}
use Rattle.lux_core.proofs.LampLists.{of_dim}
use Rattle.lux_core.proofs.dim.reply_of_dim.Goals as goal

pub returns-in_ok-reply-in-Ok-clause-answered : goal.returns-in_ok-reply-in-Ok-clause-answered
returns-in_ok-reply-in-Ok-clause-answered g c =
    let sf = g.S.Shelf in
    let read = c.in-Ok.ensures in
    let reply = c.in_ok-reply-in-Ok.reply in
    let r = run (sf.files c.args.shelf.now) (sf.absences c.args.shelf.now) (sf.absences c.reply_to_plan_file.new.shelf) (sf.faults c.args.shelf.now) (sf.faults c.reply_to_plan_file.new.shelf) (sf.taken c.reply_to_plan_file.new.shelf) in
    inr (of_dim c.args.least r (sf.files c.args.shelf.now) (sf.taken c.args.shelf.now) (sf.taken c.read_lamp_files.new.shelf) c.in-Ok.photos.items c.args.room.now c.args.name.now
    reply.status reply.text.items (rw c.as_slice.ensures at read.read) refl
    (λ tables are.
    let kept : AreTablesOf c.as_slice-tables.result.now tables = rw (c.as_slice-tables.ensures.value) are in
    let said : IsPlanAnswer c.args.least r tables c.args.room.now c.args.name.now reply.status reply.text.items =
    rw (read.files, read.stood.0, read.stood.1) at (c.in_ok-reply-in-Ok.ensures.answered tables kept) in
    said))
