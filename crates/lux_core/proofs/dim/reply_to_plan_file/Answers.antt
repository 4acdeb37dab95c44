-- What of `reply_to_plan_file` wants a proof by hand.
use Rattle.std.proofs.Common.{◌≡◌, ◌≤◌, length, inr, arith}
use Rattle.lux_core.specs.Dims.{IsSaidOfPlan}
use Rattle.lux_core.specs.Runs.{longest_file}
use Rattle.lux_core.proofs.dim.reply_to_plan_file.Goals as goal

pub returns-in_ok-reply-in-Ok-clause-answered : goal.returns-in_ok-reply-in-Ok-clause-answered
returns-in_ok-reply-in-Ok-clause-answered g c = λ tables are.
    let sf = g.S.Shelf in
    let read = c.in-Ok.ensures in
    let bytes = c.in-Ok.bytes in
    let reply = c.in_ok-reply-in-Ok.reply in
    let no_absence : sf.absences c.take_file.new.shelf ≡ sf.absences c.args.shelf.now = read.absences.only (λ e. cc) in
    let no_fault : sf.faults c.take_file.new.shelf ≡ sf.faults c.args.shelf.now = read.faults.only (λ e. cc) in
    let few : length bytes.items ≤ longest_file = omega (arith, read.whole, bytes.ok.0) in
    let taken : sf.taken c.take_file.new.shelf ≡ length bytes.items = omega (arith, read.taken, bytes.ok.0) in
    let said : IsSaidOfPlan c.args.least tables c.args.room.now bytes.items reply.status reply.text.items =
    rw (c.as_slice-read.ensures.value) at (c.in_ok-reply-in-Ok.ensures tables are) in
    inr (record {
      bytes = bytes.items;
      content = record { told = read.told; few = few };
      ended = record { taken = taken; stood = record { absences = no_absence; faults = no_fault } };
      said = said;
    })
