-- What of `value_at` wants a proof by hand.
use Rattle.scene_system.specs.Assembled.{numbers}
use Rattle.scene_system.proofs.AtPoints.{open_value_is}
use Rattle.scene_system.proofs.grid.value_at.Goals as goal

pub returns-clause-value : goal.returns-clause-value
returns-clause-value c = open_value_is (numbers c.args.scene.now) c.args.bounds.now.lower.items c.args.bounds.now.upper.items c.args.g
    c.index.result.now c.index-2.result.now c.index-3.result.now c.open_value.result c.requires.formed c.requires.inside
    c.index.ensures c.if-index.false c.index-2.ensures c.index-3.ensures c.open_value.ensures.uncovered
    (rw (← c.as_slice.ensures.value) c.open_value.ensures.low) (rw (← c.as_slice-2.ensures.value) c.open_value.ensures.high)
