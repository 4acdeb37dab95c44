-- What of `reply_of_light` wants a proof by hand.
use Rattle.std.proofs.Common.{refl, inr}
use Rattle.lux_core.specs.LightAnswers.{IsSaidByScene}
use Rattle.lux_core.specs.Runs.{run}
use Rattle.lux_core.proofs.LampLists.{of_tables}
use Rattle.lux_core.proofs.light.reply_of_light.Goals as goal

pub returns-in_ok-reply-in-Ok-clause-answered : goal.returns-in_ok-reply-in-Ok-clause-answered
returns-in_ok-reply-in-Ok-clause-answered g c = λ before taken.
    let sf = g.S.Shelf in
    let read = c.in-Ok.ensures in
    let reply = c.in_ok-reply-in-Ok.reply in
    let r = run (sf.files c.args.shelf.now) (sf.absences c.args.shelf.now) (sf.absences c.read_lamp_files.new.shelf) (sf.faults c.args.shelf.now) (sf.faults c.read_lamp_files.new.shelf) (sf.taken c.read_lamp_files.new.shelf) in
    inr (of_tables (IsSaidByScene c.args.asked c.args.name.now) r (sf.files c.args.shelf.now) (sf.taken c.args.shelf.now) (sf.taken c.read_lamp_files.new.shelf) c.in-Ok.photos.items before c.args.room.now
    reply.status reply.text.items (rw c.as_slice.ensures at read.read) refl refl (record { absences = read.stood.0; faults = read.stood.1 }) taken
    (λ tables are. c.in_ok-reply-in-Ok.ensures tables (rw (c.as_slice-tables.ensures.value) are)))
