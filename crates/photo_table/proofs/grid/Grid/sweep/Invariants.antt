use Rattle.fx_base.specs.Fraction.{lesser, greater}
use Rattle.fx_base.specs.Units.{millionths, micros_between}
use Rattle.photo_table.specs.Table.{plane, planes_to, lower, upper}
use Rattle.photo_table.specs.Hull.{gamma_extreme}
use Rattle.photo_table.specs.Grid.{table_in}
use Rattle.photo_table.proofs.Sweeps.{Swept}
use Rattle.photo_table.proofs.grid.Grid.sweep.Given as goal

abbrev pub invariant-loop-i : goal.invariant-loop-i
invariant-loop-i l =
    Swept (plane (table_in l.self)) (planes_to (table_in l.self) (millionths l.right)) l.left l.right
    (gamma_extreme lesser lower (table_in l.self) (micros_between l.low l.high))
    (gamma_extreme greater upper (table_in l.self) (micros_between l.low l.high)) l.i l.part.lo l.part.hi
