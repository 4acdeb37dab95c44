use Rattle.std.proofs.Common.{All}
use Rattle.fx_base.specs.Bound.{IsEnd}
use Rattle.radiosity_solve.proofs.guide.Guide.approach.Given as goal

abbrev pub invariant-loop : goal.invariant-loop
invariant-loop g l = All IsEnd l.near
