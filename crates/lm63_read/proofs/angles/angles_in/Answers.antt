-- One more angle, or the fault of one.
use Rattle.std.proofs.Common.{◌≡◌, ◌+◌, ◌-◌, ◌∙◌, length, arith, ap, sym}
use Rattle.std.proofs.lemmas.List.{length_push}
use Rattle.std.proofs.lemmas.Result.{err_from_is_err_and}
use Rattle.lm63_read.specs.Items.{items_of}
use Rattle.lm63_read.proofs.Runs.{angle_fault, angle_unfit, angle_more, angles_all}
use Rattle.lm63_read.proofs.angles.angles_in.Goals as goal

pub returns-in_err-angle-clause-angles : goal.returns-in_err-angle-clause-angles
returns-in_err-angle-clause-angles c =
    let e = err_from_is_err_and c.from_residual-in_err-angle.result c.from_residual-in_err-angle.ensures.1 in
    let p = c.loop-i-test.true in
    rw (e.1, e.2) (λ _. c.loop-i.invariant.so_far
    ∙ angle_fault c.args.kind (items_of c.args.bytes.now) (c.args.k + c.loop-i.i) c.loop-i.angles.items (c.args.n - c.loop-i.i) c.in_err-angle.field-0.0 (omega arith) c.in_err-angle.ensures.number)

pub returns-then-not-fits-clause-angles : goal.returns-then-not-fits-clause-angles
returns-then-not-fits-clause-angles c =
    λ _. c.loop-i.invariant.so_far
    ∙ angle_unfit c.args.kind (items_of c.args.bytes.now) (c.args.k + c.loop-i.i) c.loop-i.angles.items c.deref.result.now (c.args.n - c.loop-i.i) (c.args.n - 1 - c.loop-i.i) c.in_ok-angle.angle.0
    (omega arith) c.deref.ensures.value c.in_ok-angle.ensures.number (sym c.if-not-fits.ensures)

pub loop-i-preserved : goal.loop-i-preserved
loop-i-preserved c =
    let items = items_of c.args.bytes.now in
    let i = c.loop-i.i in
    let a = c.in_ok-angle.ensures.after in
    let count = a.count in
    let k : c.args.k + i + 1 ≡ c.args.k + (i + 1) = omega arith in
    let n : c.args.n - 1 - i ≡ c.args.n - (i + 1) = omega arith in
    record {
      at = a.at;
      ahead = omega arith;
      after = λ _. omega arith;
      size = omega (arith, ap length c.in_ok-push.ensures.items, length_push c.loop-i.angles.items c.in_ok-angle.angle, c.loop-i.invariant.size);
      so_far = c.loop-i.invariant.so_far
          ∙ (rw (← k, ← n) (angle_more c.args.kind items (c.args.k + i) c.loop-i.angles.items c.deref.result.now c.push.new.self.items (c.args.n - i) (c.args.n - 1 - i) c.in_ok-angle.angle.0
          (omega arith) c.deref.ensures.value c.in_ok-push.ensures.items c.in_ok-angle.ensures.number (sym c.if-not-fits.ensures)));
    }

pub returns-clause-angles : goal.returns-clause-angles
returns-clause-angles c =
    c.loop-i.invariant.so_far ∙ angles_all c.args.kind (items_of c.args.bytes.now) (c.args.k + c.loop-i.i) c.loop-i.angles.items (c.args.n - c.loop-i.i) (omega arith)
