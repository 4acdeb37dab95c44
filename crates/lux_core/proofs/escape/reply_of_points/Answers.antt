-- The files of the room's lamps were read, and the route is told by their tables.
use Rattle.std.proofs.Common.{refl, inl, inr}
use Rattle.lux_core.specs.Escapes.{IsRouteTold}
use Rattle.lux_core.specs.Runs.{run}
use Rattle.lux_core.proofs.LampLists.{of_tables}
use Rattle.lux_core.proofs.escape.reply_of_points.Goals as goal

pub returns-in_ok-reply-in-Ok-clause-answered : goal.returns-in_ok-reply-in-Ok-clause-answered
returns-in_ok-reply-in-Ok-clause-answered g c = λ before taken.
    let sf = g.S.Shelf in
    let read = c.in-Ok.ensures in
    let reply = c.in_ok-reply-in-Ok.reply in
    let r = run (sf.files c.args.shelf.now) (sf.absences c.args.shelf.now) (sf.absences c.read_lamp_files.new.shelf) (sf.faults c.args.shelf.now) (sf.faults c.read_lamp_files.new.shelf) (sf.taken c.read_lamp_files.new.shelf) in
    inr (inr (of_tables (IsRouteTold c.args.route.now c.args.limits.now c.args.marked.now) r (sf.files c.args.shelf.now) (sf.taken c.args.shelf.now) (sf.taken c.read_lamp_files.new.shelf)
    c.in-Ok.photos.items before c.args.room.now reply.status reply.text.items (rw c.as_slice.ensures at read.read) refl refl (record { absences = read.stood.0; faults = read.stood.1 }) taken
    (λ tables are. c.in_ok-reply-in-Ok.ensures tables (rw (c.as_slice-tables.ensures.value) are))))
