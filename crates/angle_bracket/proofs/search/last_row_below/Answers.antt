use Rattle.std.proofs.Common.{arith}
use Rattle.angle_bracket.proofs.Found.{found_none}
use Rattle.angle_bracket.proofs.RowTest.{sine_range, cosine_range}
use Rattle.angle_bracket.proofs.search.last_row_below.Goals as goal

pub loop-high-init : goal.loop-high-init
loop-high-init c = found_none c.args.x c.args.y

pub is_below-requires-clause-sine_high : goal.is_below-requires-clause-sine_high
is_below-requires-clause-sine_high c = let within = c.loop-high.invariant.within in sine_range _ c.sin.result (omega (arith, within)) c.sin.ensures

pub is_below-requires-clause-cosine_high : goal.is_below-requires-clause-cosine_high
is_below-requires-clause-cosine_high c = cosine_range _ c.cos.result c.cos.ensures
