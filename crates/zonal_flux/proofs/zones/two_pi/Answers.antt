-- Twice the ends of pi, which is at most 4.
use Rattle.std.proofs.Common.{ℕ, ◌*◌, ◌≡◌, arith, ap, pos, ◌∙◌}
use Rattle.fx_base.specs.Units.{natural}
use Rattle.zonal_flux.proofs.Naturals.{natural_width}
use Rattle.zonal_flux.proofs.SolidAngles.{pi_below_four, two_pi_is}
use Rattle.zonal_flux.proofs.zones.two_pi.Goals as goal

pub tick_of-requires : goal.tick_of-requires
tick_of-requires c =
    let a : c.magnitude-lo.result ≡ natural c.pi_span-pi.result.lo = c.magnitude-lo.ensures ∙ ap natural c.lo.ensures.end in
    let b = pi_below_four c.pi_span-pi.result c.pi_span-pi.ensures.meets in
    omega (arith, a, b)

pub tick_of-requires-2 : goal.tick_of-requires-2
tick_of-requires-2 c =
    let p = c.pi_span-pi.result in
    let a : c.magnitude-hi.result ≡ natural p.hi = c.magnitude-hi.ensures ∙ ap natural c.hi.ensures.end in
    let b = pi_below_four p c.pi_span-pi.ensures.meets in
    let w = natural_width 1 p.lo p.hi c.pi_span-pi.ensures.natural c.pi_span-pi.ensures.narrow in
    omega (arith, a, b, w)

pub returns : goal.returns
returns c =
    let p = c.pi_span-pi.result in
    let a : c.magnitude-lo.result ≡ natural p.lo = c.magnitude-lo.ensures ∙ ap natural c.lo.ensures.end in
    let b : c.magnitude-hi.result ≡ natural p.hi = c.magnitude-hi.ensures ∙ ap natural c.hi.ensures.end in
    let twice = λ (z : ℕ). pos (2 * z) in
    two_pi_is p c.new.result c.pi_span-pi.ensures.meets c.pi_span-pi.ensures.narrow c.pi_span-pi.ensures.natural c.lo.ensures.in_order
    (c.new.ensures.low ∙ c.tick_of.ensures ∙ ap twice a) (c.new.ensures.high ∙ c.tick_of-2.ensures ∙ ap twice b)
