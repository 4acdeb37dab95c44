-- What of `reply_to_file` wants a proof by hand.
use Rattle.std.proofs.Common.{◌≡◌, ◌≤◌, length, inr, map, arith}
use Rattle.std.specs.Prelude.{string_bytes}
use Rattle.lux_core.specs.Answers.{IsBytesAnswer}
use Rattle.lux_core.specs.Runs.{run, longest_file}
use Rattle.lux_core.proofs.file.reply_to_file.Goals as goal

pub returns-in_ok-reply-in-Ok-clause-answered : goal.returns-in_ok-reply-in-Ok-clause-answered
returns-in_ok-reply-in-Ok-clause-answered g c =
    let sf = g.S.Shelf in
    let taken = c.in-Ok.ensures in
    let bytes = c.in-Ok.bytes in
    let reply = c.in_ok-reply-in-Ok.reply in
    let r = run (sf.files c.args.shelf.now) (sf.absences c.args.shelf.now) (sf.absences c.reply_to_bytes.new.shelf) (sf.faults c.args.shelf.now) (sf.faults c.reply_to_bytes.new.shelf) (sf.taken c.reply_to_bytes.new.shelf) in
    let no_absence : sf.absences c.take_file.new.shelf ≡ sf.absences c.args.shelf.now = taken.absences.only (λ e. cc) in
    let no_fault : sf.faults c.take_file.new.shelf ≡ sf.faults c.args.shelf.now = taken.faults.only (λ e. cc) in
    let few : length bytes.items ≤ longest_file = omega (arith, taken.whole, bytes.ok.0) in
    let said : IsBytesAnswer c.args.asked r c.args.name.now (map string_bytes c.args.words.now) bytes.items reply.status reply.text.items =
    rw (taken.files, no_absence, no_fault, c.as_slice-read.ensures.value) at c.in_ok-reply-in-Ok.ensures.answered in
    inr (record { bytes = bytes.items; read = record { told = taken.told; few = few }; said = said })
