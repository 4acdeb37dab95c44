-- The quotients are those of the two spans' ends.
use Rattle.std.proofs.Common.{◌≡◌, ap, refl, ◌∙◌, arith}
use Rattle.fx_base.specs.Units.{natural}
use Rattle.escape_route.proofs.Ratios.{ratio_holds}
use Rattle.escape_route.proofs.quotient.ratio.Goals as goal

pub returns-clause-holds : goal.returns-clause-holds
returns-clause-holds c =
    let e = c.args.e.now in
    let a : c.magnitude-least.result ≡ natural e.least.lo = c.magnitude-least.ensures ∙ ap natural c.lo.ensures.end in
    let lower : c.magnitude.result ≡ natural e.greatest.lo = c.magnitude.ensures ∙ ap natural c.lo-2.ensures.end in
    let b : c.magnitude-2.result ≡ natural e.least.hi = c.magnitude-2.ensures ∙ ap natural c.hi.ensures.end in
    let upper : c.magnitude-3.result ≡ natural e.greatest.hi = c.magnitude-3.ensures ∙ ap natural c.hi-2.ensures.end in
    let some = c.if-least-eq0.false in
    ratio_holds e.least e.greatest _ _ c.requires.least c.requires.greatest (record {
      positive = omega (arith, a, some);
      lower = rw (← lower, ← b) refl;
      upper = rw (← upper, ← a) c.div_ceil-hi.ensures;
    })
