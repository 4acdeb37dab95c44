-- The exact tables of a room's files, and those that the program keeps of them.
use Rattle.std.specs.Prelude.{ℕ, ◌<◌, ◌≡◌, List, length}
use Rattle.photo_table.specs.Exact.{IsRoundedOf}
use Rattle.photo_table.specs.Table.{Table}
use Rattle.direct_light.specs.Shares.{table_at}

-- the program's tables are the exact ones rounded to ticks, file by file
pub record AreTablesOf (photos tables : List Table) : Type 0 where
  pub count : length photos ≡ length tables
  pub each : (k : ℕ) → k < length photos → IsRoundedOf (table_at photos k) (table_at tables k)
