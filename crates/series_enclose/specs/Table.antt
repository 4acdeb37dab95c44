-- The table of sines and cosines.
use Rattle.std.specs.Prelude.{ℕ, ◌<◌, List, length, get_or}
use Rattle.series_enclose.specs.declared.table.SineRow.{SineRow}
use Rattle.series_enclose.specs.Enclosed.{IsRow}

-- each row is that of its angle
abbrev pub IsTable : List SineRow → Type 0
IsTable rows = (k : ℕ) (d : SineRow) → k < length rows → IsRow k (get_or rows k d).sin (get_or rows k d).cos
