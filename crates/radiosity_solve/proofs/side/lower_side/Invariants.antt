use Rattle.std.proofs.Common.{◌≡◌, length, All}
use Rattle.radiosity_solve.specs.Bounds.{IsEnd}
use Rattle.radiosity_solve.proofs.Iterates.{IsLowerState}
use Rattle.radiosity_solve.proofs.side.lower_side.Given as goal

abbrev pub invariant-loop-turn : goal.invariant-loop-turn
invariant-loop-turn g l = record {
  x_size : length l.x.items ≡ length l.system.rows;
  y_size : length l.y.items ≡ length l.system.rows;
  ends : All IsEnd l.x.items;
  state : IsLowerState l.system l.x.items l.turn;
}
