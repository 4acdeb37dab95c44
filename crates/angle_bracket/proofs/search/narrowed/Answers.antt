use Rattle.std.proofs.Common.{◌*◌, arith}
use Rattle.angle_bracket.proofs.RowTest.{sine_range, cosine_range}
use Rattle.angle_bracket.proofs.search.narrowed.Goals as goal

pub is_below-requires-clause-sine_high : goal.is_below-requires-clause-sine_high
is_below-requires-clause-sine_high c =
    let within = c.requires.found.within in
    sine_range (c.args.step * 125) c.sin_span.result (omega (arith, within, c.if-found-step.false)) (rw c.angle_of-angle.ensures at c.sin_span.ensures)

pub is_below-requires-clause-cosine_high : goal.is_below-requires-clause-cosine_high
is_below-requires-clause-cosine_high c = cosine_range (c.args.step * 125) c.cos_span.result (rw c.angle_of-angle.ensures at c.cos_span.ensures)
