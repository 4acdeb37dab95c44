-- One angle more.
use Rattle.std.proofs.Common.{arith, ◌∙◌, ◌≡◌, ◌+◌, ◌-◌, ◌++◌, ◌∷◌, [], ap}
use Rattle.std.proofs.lemmas.Result.{err_from_is_err_and}
use Rattle.fx_base.specs.declared.Micro.{Micro}
use Rattle.symmetry_expand.specs.Measured.{micro}
use Rattle.eulumdat_read.specs.Lines.{lines_of}
use Rattle.eulumdat_read.proofs.RunSteps.{angles_fault, angles_order, angles_more, angles_done, more_angles, angles_within}
use Rattle.eulumdat_read.proofs.angles.read_angles.Goals as goal

pub returns-in_err-angle : goal.returns-in_err-angle
returns-in_err-angle c =
    let e = err_from_is_err_and c.from_residual-in_err-angle.result c.from_residual-in_err-angle.ensures.1 in
    let p = c.loop-i-test.true in
    rw (e.1, e.2) (λ _. c.loop-i.invariant.so_far ∙ angles_fault (lines_of c.args.bytes.now) (c.args.k + c.loop-i.i) c.args.most c.loop-i.least c.loop-i.angles.items (c.args.n - c.loop-i.i) c.in_err-angle.field-0.0 (omega arith) c.in_err-angle.ensures)

pub returns-then-angle-least : goal.returns-then-angle-least
returns-then-angle-least c =
    let p = c.loop-i-test.true in
    λ _. c.loop-i.invariant.so_far ∙ angles_order (lines_of c.args.bytes.now) (c.args.k + c.loop-i.i) c.args.most c.loop-i.least c.loop-i.angles.items (c.args.n - c.loop-i.i) c.in_ok-angle.angle (omega arith) c.in_ok-angle.ensures.0 c.if-angle-least.true

pub loop-i-preserved : goal.loop-i-preserved
loop-i-preserved c =
    let p = c.loop-i-test.true in
    let inv = c.loop-i.invariant in
    let e = c.in_ok-angle.ensures in
    let l = c.if-angle-least.false in
    let items : c.push.new.self.items ≡ c.loop-i.angles.items ++ micro c.in_ok-angle.angle ∷ [] = c.in_ok-push.ensures.items ∙ ap (λ (m : Micro). c.loop-i.angles.items ++ m ∷ []) c.micro_of.ensures in
    record {
      at = e.1.0;
      before = omega (arith, e.1.1.0);
      after = λ _. omega (arith, e.1.1.0);
      so_far = inv.so_far ∙ angles_more (lines_of c.args.bytes.now) (c.args.k + c.loop-i.i) (c.args.k + (c.loop-i.i + 1)) c.args.most c.loop-i.least c.loop-i.angles.items c.push.new.self.items (c.args.n - c.loop-i.i) (c.args.n - (c.loop-i.i + 1)) c.in_ok-angle.angle e.0 l (omega arith) (omega arith) items;
      run = more_angles c.loop-i.angles.items c.push.new.self.items c.loop-i.i c.loop-i.least c.in_ok-angle.angle inv.run l items;
      least = omega (arith, e.1.1.1.1);
    }

pub returns : goal.returns
returns c =
    let inv = c.loop-i.invariant in
    let p = c.loop-i-test.false in
    let q = c.loop-i.auto.i-end in
    let some = c.requires.some in
    let a = inv.after (omega arith) in (
      inv.so_far ∙ angles_done (lines_of c.args.bytes.now) (c.args.k + c.loop-i.i) c.args.most c.loop-i.least c.loop-i.angles.items (c.args.n - c.loop-i.i) (omega arith),
      (inv.at, (omega arith, angles_within c.loop-i.i c.args.n c.loop-i.least (c.args.most + 1) c.loop-i.angles.items inv.run (omega arith) inv.least)),
    )
