-- What of `lux` wants a proof by hand.
use Rattle.std.proofs.Common.{rules, map, string_bytes, sym, inl, inr}
use Rattle.lux_core.specs.Runs.{run}
use Rattle.lux_core.specs.declared.status.Status.TheVariants as status
use Rattle.lux_core.proofs.Complete.{complete_written}
use Rattle.lux_core.proofs.top.lux.Goals as goal

pub returns-in_default-clause-cut_short : goal.returns-in_default-clause-cut_short
returns-in_default-clause-cut_short g c = λ e. (c.as_bytes.result.now, status.Usage, c.written.ensures.cut_short e, inl (search rules))

pub returns-clause-cut_short : goal.returns-clause-cut_short
returns-clause-cut_short g c = λ e. (
  c.as_slice.result.now,
  c.in-Ok.reply.status,
  c.written-2.ensures.cut_short e,
  inr (record { asked = c.in-Some.asked; command = sym c.in-Some.ensures.asked; answer = rw c.as_slice.ensures.value c.in-Ok.ensures.answered }),
)

pub returns-clause-complete : goal.returns-clause-complete
returns-clause-complete g c = λ can stood out. complete_written (map string_bytes c.args.words.now)
    (run (g.S.Shelf.files c.args.shelf.now) (g.S.Shelf.absences c.args.shelf.now) (g.S.Shelf.absences c.reply_to.new.shelf) (g.S.Shelf.faults c.args.shelf.now) (g.S.Shelf.faults c.reply_to.new.shelf) (g.S.Shelf.taken c.reply_to.new.shelf))
    c.in-Ok.reply.status c.written-2.result c.as_slice.result.now (g.O.Sink.faults c.args.out.now) (g.O.Sink.faults c.written-2.new.out) can
    (λ f. (c.written-2.ensures.whole f).0) c.written-2.ensures.rose out
    (inr (record { asked = c.in-Some.asked; command = sym c.in-Some.ensures.asked; answer = rw c.as_slice.ensures.value c.in-Ok.ensures.answered })) stood
