use Rattle.std.proofs.Common.{All}
use Rattle.fx_base.specs.Bound.{IsEnd}
use Rattle.radiosity_solve.proofs.guide.go.Given as goal

abbrev pub invariant-loop-i : goal.invariant-loop-i
invariant-loop-i l = All IsEnd l.near
