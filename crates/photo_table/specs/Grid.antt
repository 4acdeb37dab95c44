-- The table that a grid of the program says.
use Rattle.photo_table.specs.declared.grid.Grid.{Grid}
use Rattle.photo_table.specs.Table.{Table}
use Rattle.photo_table.specs.Kept.{table_of}

abbrev pub table_in : Grid → Table
table_in g = table_of g.planes.items g.gammas.items g.values.items
