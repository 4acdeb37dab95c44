-- A line that begins with `TILT=`, or one more byte that begins none.
use Rattle.std.proofs.Common.{◌≡◌, ◌∙◌, ◌&&◌, true, false, drop, length, arith, ap, sym, refl}
use Rattle.lm63_read.specs.Head.{begins_tilt, tilt_from}
use Rattle.lm63_read.proofs.Heads.{tilt_passed, tilt_found, tilt_none}
use Rattle.lm63_read.proofs.head.tilt_lines.Goals as goal
use Rattle.lm63_read.proofs.head.tilt_lines.Goals.{else-fresh-via-then-fresh+else-begins_tilt, else-fresh-via-else-fresh}

pub returns-then-begins_tilt : goal.returns-then-begins_tilt
returns-then-begins_tilt c =
    let bytes = c.args.bytes.now in
    let b : begins_tilt (drop c.loop-i.i bytes) ≡ true = ap begins_tilt (sym c.behind-lines.ensures) ∙ sym c.if-begins_tilt.ensures in
    rw c.behind-lines.ensures (c.loop-i.invariant ∙ (ap (λ f. tilt_from f (drop c.loop-i.i bytes)) c.if-fresh.true ∙ tilt_found bytes c.loop-i.i c.loop-i-test.true b))

pub loop-i-preserved : goal.loop-i-preserved
loop-i-preserved c =
    let bytes = c.args.bytes.now in
    let none : (c.loop-i.fresh && begins_tilt (drop c.loop-i.i bytes)) ≡ false =
    elim c.else-fresh.branch [
      | else-fresh-via-then-fresh+else-begins_tilt w ↦ rw (w.if-fresh.true, ap begins_tilt (sym c.behind-lines.ensures) ∙ (sym w.begins_tilt.ensures ∙ w.if-begins_tilt.false)) refl
      | else-fresh-via-else-fresh w ↦ rw w.if-fresh.false refl
    ] in
    c.loop-i.invariant ∙ tilt_passed bytes c.loop-i.i c.loop-i.fresh c.loop-i-test.true none

pub returns : goal.returns
returns c =
    let e : c.loop-i.i ≡ length c.args.bytes.now = omega arith in
    c.loop-i.invariant ∙ (ap (λ i. tilt_from c.loop-i.fresh (drop i c.args.bytes.now)) e ∙ tilt_none c.loop-i.fresh c.args.bytes.now)
