-- What of `push_escaped` wants a proof by hand.
use Rattle.std.proofs.Common.{string_bytes, sym, map-id, ◌∙◌}
use Rattle.std.proofs.lemmas.Iterator.{YieldsList-from_chars}
use Rattle.std.proofs.lemmas.Iterator.Consumers.{YieldsList-end}
use Rattle.report_page.proofs.Escapes.{all_done, none_yet, one_more}
use Rattle.report_page.proofs.escape.push_escaped.Goals as goal

pub loop-c-init : goal.loop-c-init
loop-c-init c = none_yet _

pub loop-c-preserved : goal.loop-c-preserved
loop-c-preserved c = one_more (string_bytes c.args.text.now) (string_bytes c.loop-c.text) _ c.loop-c.yielded c.in-Some.c c.loop-c.invariant c.in_ok-push_character.ensures

pub returns : goal.returns
returns c =
    let end = YieldsList-end (YieldsList-from_chars c.args.outside.now c.utf8.outside cc) c.loop-c.yielded _ c.loop-c.yielded_by _ _ c.in-None.is c.next.ensures.steps in
    all_done (string_bytes c.args.text.now) _ c.args.outside.now c.loop-c.yielded c.utf8.outside (sym (map-id c.loop-c.yielded) ∙ end.0) c.loop-c.invariant
