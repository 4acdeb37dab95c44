-- What is said of the program's table of a photometric file is said of the file.
use Rattle.std.proofs.Common.{ℕ, ◌≡◌, List}
use Rattle.photo_table.specs.Table.{Table}
use Rattle.zonal_flux.specs.Laws.{FluxTextIsRight}
use Rattle.lux_core.specs.Photometry.{IsReadAs, IsSaidOfFile, IsSaidOfTable}
use Rattle.lux_core.specs.declared.status.Status.{Status}
use Rattle.lux_core.specs.declared.status.Status.TheVariants as status
use Rattle.lux_core.specs.declared.words.Format.{Format}
use Rattle.lux_core.specs.declared.words.PhotometryQuestion.{PhotometryQuestion}
use Rattle.lux_core.specs.declared.words.PhotometryQuestion.TheVariants.{Summary, Flux}

pub said_of_file : (format : Format) (asked : PhotometryQuestion) (bytes : List ℕ) (table : Table) (given : Status) (text : List ℕ) → IsReadAs format bytes table → IsSaidOfTable asked table text
    → given ≡ status.Done → FluxTextIsRight → IsSaidOfFile format asked bytes given text
said_of_file format Summary bytes table given text is said done right = record { status_is = done; table = table; is = is; summary = said }
said_of_file format (Flux lumens) bytes table given text is said done right =
    record { status_is = done; table = table; is = is; right = right table is.table is.rounded lumens text said }
