-- What of `reply_of_check` wants a proof by hand.
use Rattle.std.proofs.Common.{refl, inl, inr}
use Rattle.lux_core.specs.Claims.{IsClaimAnswer}
use Rattle.lux_core.specs.LightAnswers.{IsNotServed}
use Rattle.lux_core.specs.LampTables.{Says}
use Rattle.lux_core.specs.Runs.{run}
use Rattle.scene_system.specs.Tables.{AreTablesOf}
use Rattle.lux_core.proofs.LampLists.{of_tables, of_claim}
use Rattle.lux_core.proofs.claim.reply_of_check.Goals as goal

pub returns-in-Ok-served_scene-clause-answered : goal.returns-in-Ok-served_scene-clause-answered
returns-in-Ok-served_scene-clause-answered g c = λ before taken.
    let sf = g.S.Shelf in
    let read = c.in-Ok.ensures in
    let s = c.in-Ok-served_scene.ensures in
    let r = run (sf.files c.args.shelf.now) (sf.absences c.args.shelf.now) (sf.absences c.reply_to_claim_file.new.shelf) (sf.faults c.args.shelf.now) (sf.faults c.reply_to_claim_file.new.shelf) (sf.taken c.reply_to_claim_file.new.shelf) in
    inr (inr (of_claim r (sf.files c.args.shelf.now) (sf.taken c.args.shelf.now) (sf.taken c.read_lamp_files.new.shelf) c.in-Ok.photos.items c.args.room.now c.args.name.now
    c.in_ok-reply-in-Ok-served_scene.reply.status c.in_ok-reply-in-Ok-served_scene.reply.text.items (rw c.as_slice.ensures at read.read) refl
    (λ tables are.
    let kept : AreTablesOf c.as_slice-in-Ok.result.now tables = rw (c.as_slice-in-Ok.ensures.value) are in
    let said : IsClaimAnswer r tables c.args.room.now c.args.name.now c.in_ok-reply-in-Ok-served_scene.reply.status c.in_ok-reply-in-Ok-served_scene.reply.text.items =
    rw (read.files, read.stood.0, read.stood.1) at (c.in_ok-reply-in-Ok-served_scene.ensures.answered tables (s.exact tables kept) (s.scene tables kept)) in
    (s.served tables kept, said))))

pub returns-in-Err-Said-served_scene-clause-answered : goal.returns-in-Err-Said-served_scene-clause-answered
returns-in-Err-Said-served_scene-clause-answered g c = λ before taken.
    let sf = g.S.Shelf in
    let read = c.in-Ok.ensures in
    let reply = c.in-Err-Said-served_scene.reply in
    let r = run (sf.files c.args.shelf.now) (sf.absences c.args.shelf.now) (sf.absences c.read_lamp_files.new.shelf) (sf.faults c.args.shelf.now) (sf.faults c.read_lamp_files.new.shelf) (sf.taken c.read_lamp_files.new.shelf) in
    rw c.in-Err-Said-served_scene.field-0-is (inr (inl (of_tables IsNotServed r (sf.files c.args.shelf.now) (sf.taken c.args.shelf.now) (sf.taken c.read_lamp_files.new.shelf) c.in-Ok.photos.items before c.args.room.now
    reply.status reply.text.items (rw c.as_slice.ensures at read.read) refl refl (record { absences = read.stood.0; faults = read.stood.1 }) taken
    (λ tables are.
    let kept : AreTablesOf c.as_slice-in-Ok.result.now tables = rw (c.as_slice-in-Ok.ensures.value) are in
    let said : Says c.in-Err-Said-served_scene.field-0 (IsNotServed tables c.args.room.now) = c.in-Err-Said-served_scene.ensures.not_served tables kept in
    let none : IsNotServed tables c.args.room.now reply.status reply.text.items = rw c.in-Err-Said-served_scene.field-0-is at said in
    none))))
