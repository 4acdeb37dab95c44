-- The sums of rows, taken where their weights are put into 32 bits.
use Rattle.std.specs.Prelude.{ℕ, ◌<◌, ◌≡◌, List, [], length, slice_index_or}
use Rattle.interval_system.specs.System.{System, upper_total}
use Rattle.radiosity_solve.specs.declared.narrow.NarrowRow.{NarrowRow}

-- there is one for each row of the system, with the sum of its upper ends
pub record HaveSums (s : System) (rows : List NarrowRow) : Type 0 where
  pub size : length rows ≡ length s.rows
  pub sum : (k : ℕ) (d : NarrowRow) → k < length rows → (slice_index_or rows k d).sum ≡ upper_total (slice_index_or s.rows k [])
