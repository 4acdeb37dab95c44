use Rattle.std.proofs.Common.{◌≤◌, ◌+◌, arith}
use Rattle.series_enclose.proofs.ArcSteps.{cube_width, sine_meets, sine_narrow}
use Rattle.series_enclose.proofs.arc.sine_bounds.Goals as goal

pub series_bounds-requires-clause-narrow : goal.series_bounds-requires-clause-narrow
series_bounds-requires-clause-narrow c =
    let cube : c.product_over-cube.result.hi ≤ c.product_over-cube.result.lo + 2 =
    cube_width c.arc_of-arc.result.lo c.arc_of-arc.result.hi c.square_of-square.result.lo c.square_of-square.result.hi c.product_over-cube.result.lo c.product_over-cube.result.hi
    c.arc_of-arc.ensures.narrow c.arc_of-arc.ensures.order c.arc_of-arc.ensures.below c.square_of-square.ensures.order c.square_of-square.ensures.below c.square_of-square.ensures.narrow c.product_over-cube.ensures.product in
    let arc = c.arc_of-arc.ensures.narrow in
    omega arith

pub returns-clause-meets : goal.returns-clause-meets
returns-clause-meets c =
    sine_meets c.args.angle c.arc_of-arc.result.lo c.arc_of-arc.result.hi c.square_of-square.result.lo c.square_of-square.result.hi c.product_over-cube.result.lo c.product_over-cube.result.hi
    c.series_bounds.result.lo c.series_bounds.result.hi c.requires (record { low = c.arc_of-arc.ensures.low; high = c.arc_of-arc.ensures.high })
    c.square_of-square.ensures.product c.product_over-cube.ensures.product c.series_bounds.ensures.encloses

pub returns-clause-narrow : goal.returns-clause-narrow
returns-clause-narrow c =
    sine_narrow c.args.angle c.arc_of-arc.result.lo c.arc_of-arc.result.hi c.square_of-square.result.lo c.square_of-square.result.hi c.product_over-cube.result.lo c.product_over-cube.result.hi
    c.series_bounds.result.lo c.series_bounds.result.hi c.requires (record { low = c.arc_of-arc.ensures.low; high = c.arc_of-arc.ensures.high })
    c.square_of-square.ensures.product c.product_over-cube.ensures.product c.series_bounds.ensures.narrow
