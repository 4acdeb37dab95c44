-- What of `summaries_of` wants a proof by hand.
use Rattle.std.proofs.Common.{arith, refl, string_bytes}
use Rattle.std.proofs.lemmas.List.{length-map}
use Rattle.report_page.proofs.Summaries.{all_lines, at_place, next_lines, no_line}
use Rattle.report_page.proofs.files.summaries_of.Goals as goal

pub loop-photo-init : goal.loop-photo-init
loop-photo-init c = rw c.new-summaries.ensures.items (refl, no_line c.args.photos.now)

pub loop-photo-preserved : goal.loop-photo-preserved
loop-photo-preserved c = next_lines c.args.photos.now _ _ _ c.loop-photo.photo-index c.loop-photo.invariant.0 c.in_ok-push.ensures.items
    (at_place c.args.photos.now c.loop-photo.photo-index c.photo-item.result _ c.loop-photo-test.true c.photo-item.is c.in_ok-summary_text.ensures) c.loop-photo.invariant.1

pub returns : goal.returns
returns c = all_lines c.args.photos.now _
    (omega (arith, length-map c.loop-photo.summaries.items string_bytes, c.loop-photo.invariant.0, c.loop-photo-test.false, c.loop-photo.auto.photo-index-end)) c.loop-photo.invariant.1
