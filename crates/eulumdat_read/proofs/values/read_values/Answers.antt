-- One intensity more.
use Rattle.std.proofs.Common.{arith, ◌∙◌, ◌++◌, ◌∷◌, [], ap}
use Rattle.std.proofs.lemmas.Result.{err_from_is_err_and}
use Rattle.fx_base.specs.Ends.{Ends}
use Rattle.eulumdat_read.specs.Lines.{lines_of}
use Rattle.eulumdat_read.proofs.RunSteps.{none_read, read_fault, read_more, all_spans}
use Rattle.eulumdat_read.proofs.values.read_values.Goals as goal

pub loop-i-init : goal.loop-i-init
loop-i-init c =
    let k = c.requires.k in
    record {
      at = c.requires.at;
      before = omega arith;
      after = λ h. absurd (omega arith);
      read = none_read (lines_of c.args.bytes.now) c.args.k c.args.factor c.args.n c.in_ok-values.values.items c.in_ok-values.ensures.items;
    }

pub returns-in_err-product : goal.returns-in_err-product
returns-in_err-product c =
    let e = err_from_is_err_and c.from_residual-in_err-product.result c.from_residual-in_err-product.ensures.1 in
    rw (e.1, e.2) (λ _. read_fault (lines_of c.args.bytes.now) c.args.k c.args.factor c.args.n c.loop-i.i c.loop-i.values.items c.in_err-product.field-0.0 c.loop-i.invariant.read c.loop-i-test.true c.in_err-product.ensures)

pub loop-i-preserved : goal.loop-i-preserved
loop-i-preserved c =
    let inv = c.loop-i.invariant in
    let e = c.in_ok-product.ensures in
    let items = c.in_ok-push.ensures.items ∙ ap (λ (s : Ends). c.loop-i.values.items ++ s ∷ []) c.span_over.ensures in
    record {
      at = e.1.0;
      before = omega (arith, e.1.1.0);
      after = λ _. omega (arith, e.1.1.0);
      read = read_more (lines_of c.args.bytes.now) c.args.k c.args.factor c.args.n c.loop-i.i c.in_ok-product.product c.loop-i.values.items c.push.new.self.items inv.read c.loop-i-test.true e.0 e.1.1.1 items;
    }

pub returns : goal.returns
returns c =
    let inv = c.loop-i.invariant in
    let p = c.loop-i-test.false in
    let q = c.loop-i.auto.i-end in
    let some = c.requires.some in
    let a = inv.after (omega arith) in
    (all_spans (lines_of c.args.bytes.now) c.args.k c.args.factor c.args.n c.loop-i.i c.loop-i.values.items inv.read (omega arith), (inv.at, omega arith))
