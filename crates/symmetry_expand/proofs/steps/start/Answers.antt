-- The step that was found.
use Rattle.std.proofs.Common.{arith, inl, inr}
use Rattle.symmetry_expand.specs.Measured.{lifted}
use Rattle.symmetry_expand.proofs.Planes.{lifted_length}
use Rattle.symmetry_expand.proofs.Starts.{start_is}
use Rattle.symmetry_expand.proofs.steps.start.Goals as goal

pub returns-else-step-base-clause-start : goal.returns-else-step-base-clause-start
returns-else-step-base-clause-start c =
    let ps = c.args.planes.now in
    let early = c.loop-i.invariant.early in
    start_is (lifted ps) c.args.base c.loop-i.i (omega (arith, early, lifted_length ps)) c.requires.reached c.loop-i.invariant.before
    (inr (omega (arith, c.if-step-base.false, c.step.ensures.at)))

pub returns-after-loop-i-clause-start : goal.returns-after-loop-i-clause-start
returns-after-loop-i-clause-start c =
    let ps = c.args.planes.now in
    let early = c.loop-i.invariant.early in
    start_is (lifted ps) c.args.base c.loop-i.i (omega (arith, early, lifted_length ps)) c.requires.reached c.loop-i.invariant.before
    (inl (omega (arith, c.loop-i-test.false, lifted_length ps)))
