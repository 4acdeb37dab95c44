use Rattle.series_enclose.proofs.ArcSteps.{square_width, square_below}
use Rattle.series_enclose.proofs.arc.square_of.Goals as goal

pub returns-clause-narrow : goal.returns-clause-narrow
returns-clause-narrow c =
    square_width c.args.arc.lo c.args.arc.hi c.product_over.result.lo c.product_over.result.hi c.requires.narrow c.requires.order c.requires.below c.product_over.ensures.product

pub returns-clause-below : goal.returns-clause-below
returns-clause-below c =
    square_below c.args.arc.lo c.args.arc.hi c.product_over.result.lo c.product_over.result.hi c.requires.below c.product_over.ensures.product
