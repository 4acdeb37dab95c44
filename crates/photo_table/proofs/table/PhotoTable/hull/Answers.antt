use Rattle.fx_base.specs.Units.{of_bracket}
use Rattle.photo_table.specs.Grid.{table_in}
use Rattle.photo_table.proofs.Bright.{rounds_contains}
use Rattle.photo_table.proofs.HullLaws.{hull_contains}
use Rattle.photo_table.proofs.table.PhotoTable.hull.Goals as goal

pub returns-clause-contains : goal.returns-clause-contains
returns-clause-contains c = λ x y in_c in_g.
    let g = c.self.inside.grid in
    rw (← c.self.view_is)
    (rounds_contains _ _ c.hull.result c.hull.ensures.rounds (hull_contains (table_in g) g.kept.is_table (of_bracket c.args.c) (of_bracket c.args.g) x y in_c in_g))
