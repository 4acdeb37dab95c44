-- What of `reply_to_claim` wants a proof by hand.
use Rattle.std.proofs.Common.{◌≡◌, ◌∙◌, length, sym, inl, inr, arith}
use Rattle.scene_system.specs.Assembled.{numbers}
use Rattle.lux_core.proofs.ClaimAnswers.{shown_claim, unshown_claim}
use Rattle.lux_core.proofs.claim.reply_to_claim.Goals as goal

pub returns-in-Ok-holds : goal.returns-in-Ok-holds
returns-in-Ok-holds c = λ tables exact scene.
    let r = c.requires in
    let s = numbers c.args.scene.now in
    let b = c.in-Ok.bounds in
    let e = c.in-Ok.ensures in
    let n : c.len-count.result ≡ length c.args.scene.now.patches.items = omega (arith, c.len-count.ensures, c.args.scene.now.patches.ok.0) in
    inl (shown_claim tables c.args.room.now s c.args.bytes.now c.new.result.status c.new.result.text.items b.lower.items b.upper.items c.len-count.result
    r.weights n e.read
    (c.shown_holds_light.ensures tables c.args.room.now s b.lower.items b.upper.items r.accepted exact r.formed scene r.none_heavy
    (e.lower_size ∙ (n ∙ sym r.formed.size)) (e.upper_size ∙ (n ∙ sym r.formed.size)) e.lower_ends e.upper_ends c.in-Ok-holds.ensures.shown)
    c.new.ensures.status (c.new.ensures.text ∙ c.in_ok-text-in-Ok-holds.ensures.ok))

pub returns-in-Ok : goal.returns-in-Ok
returns-in-Ok c = λ tables exact scene.
    let r = c.requires in
    let s = numbers c.args.scene.now in
    let b = c.in-Ok.bounds in
    let e = c.in-Ok.ensures in
    let n : c.len-count.result ≡ length c.args.scene.now.patches.items = omega (arith, c.len-count.ensures, c.args.scene.now.patches.ok.0) in
    inr (inl (unshown_claim tables c.args.room.now s c.args.bytes.now c.new-in-Err-holds.result.status c.new-in-Err-holds.result.text.items b.lower.items b.upper.items c.len-count.result c.in-Err-holds.row
    r.weights n e.read
    (c.unshown_has_cause.ensures tables c.args.room.now s b.lower.items b.upper.items c.in-Err-holds.row r.accepted exact r.formed scene r.none_heavy
    (e.lower_size ∙ (n ∙ sym r.formed.size)) (e.upper_size ∙ (n ∙ sym r.formed.size)) e.lower_ends e.upper_ends c.in-Err-holds.ensures.first)
    c.new-in-Err-holds.ensures.status (c.new-in-Err-holds.ensures.text ∙ c.in_ok-text-in-Err-holds.ensures.ok)))
