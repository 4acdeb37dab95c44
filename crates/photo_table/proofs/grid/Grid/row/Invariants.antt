use Rattle.std.proofs.Common.{length}
use Rattle.fx_base.specs.Units.{millionths}
use Rattle.photo_table.specs.Table.{gamma, lower, upper, end_at}
use Rattle.photo_table.specs.Grid.{table_in}
use Rattle.photo_table.proofs.Sweeps.{Swept}
use Rattle.photo_table.proofs.grid.Grid.row.Given as goal

abbrev pub invariant-loop-j : goal.invariant-loop-j
invariant-loop-j l =
    Swept (gamma (table_in l.self)) (length (table_in l.self).gammas) l.low l.high
    (end_at lower (table_in l.self) (millionths l.x)) (end_at upper (table_in l.self) (millionths l.x)) l.j l.part.lo l.part.hi
