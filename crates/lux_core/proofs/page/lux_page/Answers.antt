-- What of `lux_page` wants a proof by hand.
use Rattle.std.proofs.Common.{rules, map, string_bytes, sym, inl, inr}
use Rattle.lux_core.specs.Runs.{run}
use Rattle.lux_core.specs.declared.status.Status.TheVariants as status
use Rattle.lux_core.proofs.Complete.{complete_page}
use Rattle.lux_core.proofs.page.lux_page.Goals as goal

pub returns-then-not-ask_for_a_page-clause-cut_short : goal.returns-then-not-ask_for_a_page-clause-cut_short
returns-then-not-ask_for_a_page-clause-cut_short g c = λ e. (c.as_bytes.result.now, status.Usage, c.written.ensures.cut_short e, inl (search rules))

pub returns-clause-answered : goal.returns-clause-answered
returns-clause-answered g c = λ whole enough. (
  c.as_slice.result.now,
  (c.written-2.ensures.whole whole).1,
  inr (record { one = search rules; answer = rw ((c.written-2.ensures.whole whole).0, c.as_slice.ensures.value, ← c.page_name-name.ensures) c.in-Ok.ensures.answered }),
)

pub returns-clause-cut_short : goal.returns-clause-cut_short
returns-clause-cut_short g c = λ e. (
  c.as_slice.result.now,
  c.in-Ok.reply.status,
  c.written-2.ensures.cut_short e,
  inr (record { one = search rules; answer = rw (c.as_slice.ensures.value, ← c.page_name-name.ensures) c.in-Ok.ensures.answered }),
)

pub returns-clause-complete : goal.returns-clause-complete
returns-clause-complete g c = λ can stood out. complete_page (map string_bytes c.args.words.now)
    (run (g.S.Shelf.files c.args.shelf.now) (g.S.Shelf.absences c.args.shelf.now) (g.S.Shelf.absences c.reply_to_file.new.shelf) (g.S.Shelf.faults c.args.shelf.now) (g.S.Shelf.faults c.reply_to_file.new.shelf) (g.S.Shelf.taken c.reply_to_file.new.shelf))
    c.in-Ok.reply.status c.written-2.result c.as_slice.result.now (g.O.Sink.faults c.args.out.now) (g.O.Sink.faults c.written-2.new.out) can
    (λ f. (c.written-2.ensures.whole f).0) c.written-2.ensures.rose out
    (inr (record { one = search rules; answer = rw (c.as_slice.ensures.value, ← c.page_name-name.ensures) c.in-Ok.ensures.answered })) stood
