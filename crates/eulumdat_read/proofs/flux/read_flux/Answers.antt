-- One set more.
use Rattle.std.proofs.Common.{arith}
use Rattle.std.proofs.lemmas.Result.{err_from_is_err_and}
use Rattle.eulumdat_read.specs.Lines.{lines_of}
use Rattle.eulumdat_read.proofs.RunSteps.{lit_fault, lit_here, lit_there, lit_all}
use Rattle.eulumdat_read.proofs.flux.read_flux.Goals as goal
use Rattle.eulumdat_read.proofs.flux.read_flux.Goals.{then-i-lamp_set, else-i-lamp_set}

pub returns-in_err-flux : goal.returns-in_err-flux
returns-in_err-flux c =
    let e = err_from_is_err_and c.from_residual.result c.from_residual.ensures.1 in
    rw (e.1, e.2) (lit_fault (lines_of c.args.bytes.now) c.args.lamp_set c.args.sets c.loop-i.i c.loop-i.chosen c.in_err-flux.field-0.0 c.loop-i.invariant.lit c.loop-i-test.true c.in_err-flux.ensures)

pub loop-i-preserved : goal.loop-i-preserved
loop-i-preserved c =
    let lines = lines_of c.args.bytes.now in
    let inv = c.loop-i.invariant in
    let e = c.in_ok-flux.ensures in
    record {
      at = e.1.0;
      before = omega (arith, e.1.1.0);
      after = λ _. omega (arith, e.1.1.0);
      lit = elim c.if-i-lamp_set.branch [
        | then-i-lamp_set w ↦ rw w.chosen-is (lit_here lines c.args.lamp_set c.args.sets c.loop-i.i c.loop-i.chosen c.in_ok-flux.flux inv.lit c.loop-i-test.true e.0 w.if-i-lamp_set.true e.1.1.1.1)
        | else-i-lamp_set w ↦ rw w.chosen-is (lit_there lines c.args.lamp_set c.args.sets c.loop-i.i c.loop-i.chosen c.in_ok-flux.flux c.requires.set inv.lit c.loop-i-test.true e.0 w.if-i-lamp_set.false)
      ];
    }

pub returns : goal.returns
returns c =
    let inv = c.loop-i.invariant in
    let p = c.loop-i-test.false in
    let q = c.loop-i.auto.i-end in
    let set = c.requires.set in
    let chosen = c.requires.chosen in
    let a = inv.after (omega arith) in (
      lit_all (lines_of c.args.bytes.now) c.args.lamp_set c.args.sets c.loop-i.i c.loop-i.chosen inv.lit (omega arith) chosen,
      (inv.at, (omega arith, inv.lit.small)),
    )
