use Rattle.std.proofs.Common.{◌+◌, ◌<◌, arith}
use Rattle.photo_table.specs.Table.{gamma}
use Rattle.photo_table.specs.Grid.{table_in}
use Rattle.photo_table.proofs.Corner.{row_value}
use Rattle.photo_table.proofs.Lists.{gammas_rise}
use Rattle.photo_table.proofs.grid.Grid.weighed_row.Goals as goal

pub returns-clause-low : goal.returns-clause-low
returns-clause-low c =
    let s = c.args.self.now in
    let rise : gamma (table_in s) c.args.j < gamma (table_in s) (c.args.j + 1) =
    gammas_rise s.planes.items s.gammas.items s.values.items s.kept c.args.j (c.args.j + 1) (omega arith) c.requires.within in
    row_value c.value_at-near.result.lo c.value_at-far.result.lo _ _ c.args.y c.weighed-lo.result _ _ c.requires.low c.requires.high rise
    c.value_at-near.ensures.low c.value_at-far.ensures.low (rw (c.gamma_at.ensures.at, c.gamma_at-2.ensures.at) at c.weighed-lo.ensures)

pub returns-clause-high : goal.returns-clause-high
returns-clause-high c =
    let s = c.args.self.now in
    let rise : gamma (table_in s) c.args.j < gamma (table_in s) (c.args.j + 1) =
    gammas_rise s.planes.items s.gammas.items s.values.items s.kept c.args.j (c.args.j + 1) (omega arith) c.requires.within in
    row_value c.value_at-near.result.hi c.value_at-far.result.hi _ _ c.args.y c.weighed-hi.result _ _ c.requires.low c.requires.high rise
    c.value_at-near.ensures.high c.value_at-far.ensures.high (rw (c.gamma_at.ensures.at, c.gamma_at-2.ensures.at) at c.weighed-hi.ensures)
