use Rattle.std.proofs.Common.{arith}
use Rattle.form_factor.proofs.Divided.{over_fits}
use Rattle.form_factor.proofs.Coefficients.{none_below, dark_above, lo_most, low_end, five_above, one_above, holds_above}
use Rattle.form_factor.proofs.weigh.weigh.Goals as goal

pub returns-then-reflect-eq0-clause-low : goal.returns-then-reflect-eq0-clause-low
returns-then-reflect-eq0-clause-low c = λ n. none_below _

pub returns-then-reflect-eq0-clause-high : goal.returns-then-reflect-eq0-clause-high
returns-then-reflect-eq0-clause-high c = λ n. rw c.if-reflect-eq0.true (dark_above c.args.fronts c.args.squared c.args.area _ c.requires.apart c.requires.some)

pub overflow_mul-over-4 : goal.overflow_mul-over-4
overflow_mul-over-4 c =
    omega (
      arith,
      over_fits c.args.reflect c.args.fronts c.args.squared c.args.area c.scale-near.result c.scale-far.result c.requires.reflect c.requires.near
          c.scale-near.ensures.fits c.scale-far.ensures.fits,
    )

pub quotient-lo-requires-clause-most : goal.quotient-lo-requires-clause-most
quotient-lo-requires-clause-most c =
    omega (
      arith,
      lo_most c.args.reflect c.args.fronts c.args.squared c.args.area c.scale-near.result c.scale-far.result c.pi_ends-pi.result.hi c.divisor-under.result
          c.requires.reflect c.requires.near c.divisor-under.ensures.some c.divisor-under.ensures.above,
    )

pub overflow_add-lo : goal.overflow_add-lo
overflow_add-lo c =
    omega (
      arith,
      c.quotient-lo.ensures,
      lo_most c.args.reflect c.args.fronts c.args.squared c.args.area c.scale-near.result c.scale-far.result c.pi_ends-pi.result.hi c.divisor-under.result
          c.requires.reflect c.requires.near c.divisor-under.ensures.some c.divisor-under.ensures.above,
    )

pub returns-clause-low : goal.returns-clause-low
returns-clause-low c = λ n.
    low_end c.args.reflect c.args.fronts c.args.squared c.args.area c.scale-near.result c.scale-far.result c.pi_ends-pi.result.hi c.divisor-under.result
    c.quotient-lo.result _ c.requires.apart c.requires.some c.scale-near.ensures.some c.scale-far.ensures.some (c.pi_ends-pi.ensures.high n)
    c.divisor-under.ensures.above c.quotient-lo.ensures

pub returns-clause-high : goal.returns-clause-high
returns-clause-high c = λ n.
    holds_above _ c.quotient-lo.result c.min.result c.min.ensures
    (five_above c.args.reflect c.args.fronts c.args.squared c.args.area c.scale-near.result c.scale-far.result c.pi_ends-pi.result.lo c.pi_ends-pi.result.hi
    c.divisor-under.result c.quotient-lo.result _ c.requires.apart c.requires.some c.scale-near.ensures.some c.scale-far.ensures.some (c.pi_ends-pi.ensures.low n)
    c.scale-near.ensures.large c.scale-far.ensures.large c.pi_ends-pi.ensures.three c.pi_ends-pi.ensures.narrow c.divisor-under.ensures.some
    (omega (
      arith,
      c.quotient-lo.ensures,
      lo_most c.args.reflect c.args.fronts c.args.squared c.args.area c.scale-near.result c.scale-far.result c.pi_ends-pi.result.hi
          c.divisor-under.result c.requires.reflect c.requires.near c.divisor-under.ensures.some c.divisor-under.ensures.above,
    ))
    c.divisor-under.ensures.near c.quotient-lo.ensures)
    (one_above c.args.reflect c.args.fronts c.args.squared c.args.area c.pi_ends-pi.result.lo _ c.requires.reflect c.requires.near c.requires.apart c.requires.some
    (c.pi_ends-pi.ensures.low n))

pub returns-clause-order : goal.returns-clause-order
returns-clause-order c =
    omega (
      arith,
      c.min.ensures,
      c.quotient-lo.ensures,
      lo_most c.args.reflect c.args.fronts c.args.squared c.args.area c.scale-near.result c.scale-far.result
          c.pi_ends-pi.result.hi c.divisor-under.result c.requires.reflect c.requires.near c.divisor-under.ensures.some c.divisor-under.ensures.above,
    )
