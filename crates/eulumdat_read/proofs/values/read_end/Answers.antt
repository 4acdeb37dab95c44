-- One blank line more.
use Rattle.std.proofs.Common.{◌∙◌, ◌+◌, sym, ap, drop, ℕ, Result, Err}
use Rattle.eulumdat_read.specs.Lines.{lines_of}
use Rattle.eulumdat_read.specs.Items.{all_blank}
use Rattle.eulumdat_read.specs.declared.fault.LdtFault.{LdtFault}
use Rattle.eulumdat_read.specs.declared.fault.LdtFault.TheVariants as fault
use Rattle.eulumdat_read.proofs.Cursors.{taken, left_of}
use Rattle.eulumdat_read.proofs.RunSteps.{blank_more, blank_not, blank_done}
use Rattle.eulumdat_read.proofs.values.read_end.Goals as goal

pub returns-then-not-is_blank : goal.returns-then-not-is_blank
returns-then-not-is_blank c =
    let bytes = c.args.bytes.now in
    let old = c.loop-line.cursor in
    let new = c.next_line.new.cursor in
    let inv = c.loop-line.invariant in
    let t = c.in-Some.ensures in
    inv.so_far
    ∙ blank_not (old.line + 1) (drop old.line (lines_of bytes)) c.in-Some.line.now (drop new.line (lines_of bytes)) (left_of bytes old new c.in-Some.line.now inv.at t) (sym c.is_blank.ensures ∙ c.if-not-is_blank.true)
    ∙ ap (λ (k : ℕ). let r : Result (Unit {0}) LdtFault = Err (fault.Trailing k) in r) (sym t.count)

pub loop-line-preserved : goal.loop-line-preserved
loop-line-preserved c =
    let bytes = c.args.bytes.now in
    let old = c.loop-line.cursor in
    let new = c.next_line.new.cursor in
    let inv = c.loop-line.invariant in
    let t = c.in-Some.ensures in
    record {
      at = (taken bytes old new c.in-Some.line.now inv.at t).1.0;
      so_far = inv.so_far
          ∙ blank_more (old.line + 1) (drop old.line (lines_of bytes)) c.in-Some.line.now (drop new.line (lines_of bytes)) (left_of bytes old new c.in-Some.line.now inv.at t) (sym c.is_blank.ensures ∙ c.if-not-is_blank.false)
          ∙ ap (λ (k : ℕ). all_blank (k + 1) (drop new.line (lines_of bytes))) (sym t.count);
    }

pub returns : goal.returns
returns c =
    let inv = c.loop-line.invariant in
    let e = c.in_default.ensures in
    inv.so_far ∙ blank_done (c.loop-line.cursor.line + 1) (drop c.loop-line.cursor.line (lines_of c.args.bytes.now)) (sym inv.at.rest ∙ e.0.nothing)
