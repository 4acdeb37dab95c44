use Rattle.series_enclose.proofs.ArcSteps.{cosine_meets, cosine_narrow}
use Rattle.series_enclose.proofs.arc.cosine_bounds.Goals as goal

pub returns-clause-meets : goal.returns-clause-meets
returns-clause-meets c =
    cosine_meets c.args.angle c.arc_of-arc.result.lo c.arc_of-arc.result.hi c.square_of-square.result.lo c.square_of-square.result.hi c.product_over-half_square.result.lo c.product_over-half_square.result.hi
    c.series_bounds.result.lo c.series_bounds.result.hi c.requires (record { low = c.arc_of-arc.ensures.low; high = c.arc_of-arc.ensures.high })
    c.square_of-square.ensures.product c.product_over-half_square.ensures.product c.series_bounds.ensures.encloses

pub returns-clause-narrow : goal.returns-clause-narrow
returns-clause-narrow c =
    cosine_narrow c.args.angle c.arc_of-arc.result.lo c.arc_of-arc.result.hi c.square_of-square.result.lo c.square_of-square.result.hi c.product_over-half_square.result.lo c.product_over-half_square.result.hi
    c.series_bounds.result.lo c.series_bounds.result.hi c.requires (record { low = c.arc_of-arc.ensures.low; high = c.arc_of-arc.ensures.high })
    c.square_of-square.ensures.product c.product_over-half_square.ensures.product c.series_bounds.ensures.narrow
