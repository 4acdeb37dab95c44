-- One more intensity, or the fault of one.
use Rattle.std.proofs.Common.{arith, ap, ◌∙◌, ◌++◌, ◌∷◌, []}
use Rattle.std.proofs.lemmas.Result.{err_from_is_err_and}
use Rattle.lm63_read.specs.Items.{items_of}
use Rattle.lm63_read.proofs.Runs.{none_so_far, more_so_far, fault_so_far, all_so_far}
use Rattle.lm63_read.proofs.values.values_in.Goals as goal

pub loop-i-init : goal.loop-i-init
loop-i-init c =
    record {
      at = c.requires.at;
      ahead = omega arith;
      after = λ h. absurd (omega arith);
      so_far = none_so_far (items_of c.args.bytes.now) c.args.k c.args.factor c.args.n c.in_ok-spans.spans.items c.in_ok-spans.ensures.items;
    }

pub returns-in_err-product-clause-values : goal.returns-in_err-product-clause-values
returns-in_err-product-clause-values c =
    let e = err_from_is_err_and c.from_residual-in_err-product.result c.from_residual-in_err-product.ensures.1 in
    rw (e.1, e.2) (λ _. fault_so_far (items_of c.args.bytes.now) c.args.k c.args.factor c.args.n c.loop-i.i c.loop-i.spans.items c.in_err-product.field-0.0 c.loop-i.invariant.so_far c.loop-i-test.true c.in_err-product.ensures.product)

pub loop-i-preserved : goal.loop-i-preserved
loop-i-preserved c =
    let a = c.in_ok-product.ensures.after in
    let count = a.count in
    record {
      at = a.at;
      ahead = omega arith;
      after = λ _. omega arith;
      so_far = more_so_far (items_of c.args.bytes.now) c.args.k c.args.factor c.args.n c.loop-i.i c.in_ok-product.product c.loop-i.spans.items c.push.new.self.items
          c.loop-i.invariant.so_far c.loop-i-test.true c.in_ok-product.ensures.product (c.in_ok-push.ensures.items ∙ ap (λ s. c.loop-i.spans.items ++ s ∷ []) c.span_of.ensures);
    }

pub returns-clause-values : goal.returns-clause-values
returns-clause-values c =
    all_so_far (items_of c.args.bytes.now) c.args.k c.args.factor c.args.n c.loop-i.i c.loop-i.spans.items c.loop-i.invariant.so_far (omega arith)
