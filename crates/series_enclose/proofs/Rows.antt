-- The rows of the table as they are made.
use Rattle.std.proofs.Common.{ℕ, ◌≡◌, List, length}
use Rattle.series_enclose.specs.declared.table.SineRow.{SineRow}
use Rattle.series_enclose.specs.Table.{IsTable}

pub record AreRowsSoFar (k : ℕ) (rows : List SineRow) : Type 0 where
  pub size : length rows ≡ k
  pub sound : IsTable rows
