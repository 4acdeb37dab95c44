use Rattle.std.proofs.Common.{arith}
use Rattle.angle_bracket.proofs.RowTest.{sine_range, cosine_range}
use Rattle.angle_bracket.proofs.search.likely_step.Goals as goal

pub sides_of-at-requires-clause-sine_high : goal.sides_of-at-requires-clause-sine_high
sides_of-at-requires-clause-sine_high c = sine_range _ c.sin.result (omega arith) c.sin.ensures

pub sides_of-at-requires-clause-cosine_high : goal.sides_of-at-requires-clause-cosine_high
sides_of-at-requires-clause-cosine_high c = cosine_range _ c.cos.result c.cos.ensures

pub sides_of-next-requires-clause-sine_high : goal.sides_of-next-requires-clause-sine_high
sides_of-next-requires-clause-sine_high c = sine_range _ c.sin-2.result (omega arith) c.sin-2.ensures

pub sides_of-next-requires-clause-cosine_high : goal.sides_of-next-requires-clause-cosine_high
sides_of-next-requires-clause-cosine_high c = cosine_range _ c.cos-2.result c.cos-2.ensures
