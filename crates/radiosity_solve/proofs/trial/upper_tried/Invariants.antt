use Rattle.std.proofs.Common.{All, length, ◌≡◌}
use Rattle.fx_base.specs.Bound.{IsEnd}
use Rattle.radiosity_solve.proofs.trial.upper_tried.Given as goal

abbrev pub invariant-loop : goal.invariant-loop
invariant-loop g l = record {
  near_size : length l.near ≡ length l.system.rows;
  made_size : length l.made ≡ length l.system.rows;
  ends : All IsEnd l.near;
}
