-- What the bytes of a photometric file give: the table of its luminaire, or the first fault of the file.
use Rattle.std.specs.Prelude.{ℕ, ◌≡◌, ◌≢◌, ◌⊎◌, List, ◌++◌, codes, Ok, Err}
use Rattle.decimal_text.specs.Lines.{line}
use Rattle.photo_table.specs.Exact.{IsRoundedOf}
use Rattle.photo_table.specs.Kept.{IsSummary}
use Rattle.photo_table.specs.Table.{Table}
use Rattle.eulumdat_read.specs.FaultText as ldt_text
use Rattle.eulumdat_read.specs.Ldt.{LdtFile, ldt, table_of_file}
use Rattle.eulumdat_read.specs.Lines.{lines_of}
use Rattle.eulumdat_read.specs.declared.fault.LdtFault.TheVariants as ldt_fault
use Rattle.lm63_read.specs.FaultText as ies_text
use Rattle.lm63_read.specs.Files.{IesFile}
use Rattle.lm63_read.specs.Head.{file_of}
use Rattle.lm63_read.specs.Tables.{IsTableOf}
use Rattle.lm63_read.specs.declared.fault.IesFault.TheVariants as ies_fault
use Rattle.lux_core.specs.declared.photometry.TableFault.{TableFault}
use Rattle.lux_core.specs.declared.photometry.TableFault.TheVariants as table_fault
use Rattle.lux_core.specs.declared.status.Status.{Status}
use Rattle.lux_core.specs.declared.status.Status.TheVariants as status
use Rattle.lux_core.specs.declared.words.Format.{Format}
use Rattle.lux_core.specs.declared.words.Format.TheVariants.{Lm63, Eulumdat}
use Rattle.lux_core.specs.declared.words.PhotometryQuestion.{PhotometryQuestion}
use Rattle.lux_core.specs.declared.words.PhotometryQuestion.TheVariants.{Summary, Flux}
use Rattle.zonal_flux.specs.Laws.{IsRightText}
use Rattle.zonal_flux.specs.Printed.{IsFluxText}

-- ---- by the grammar of its format

-- t is the exact table of the file that the bytes are
abbrev pub IsTableOfFile : Format → (bytes : List ℕ) → Table → Type 0
IsTableOfFile Lm63 bytes t = (file : IesFile) × (file_of bytes ≡ Ok file) × IsTableOf file t
IsTableOfFile (Eulumdat set) bytes t = (file : LdtFile) × (ldt (lines_of bytes) set ≡ Ok file) × (t ≡ table_of_file file)

-- the bytes are no file of that format, and this is their first fault
abbrev pub IsFaultOfFile : Format → (bytes : List ℕ) → TableFault → Type 0
IsFaultOfFile Lm63 bytes (table_fault.Lm63 fault) = file_of bytes ≡ Err fault
IsFaultOfFile Lm63 bytes (table_fault.Eulumdat fault) = ⊥
IsFaultOfFile (Eulumdat set) bytes (table_fault.Eulumdat fault) = ldt (lines_of bytes) set ≡ Err fault
IsFaultOfFile (Eulumdat set) bytes (table_fault.Lm63 fault) = ⊥

-- it isn't want of memory
abbrev pub IsNoWant : TableFault → Type 0
IsNoWant (table_fault.Lm63 fault) = fault ≢ ies_fault.Memory
IsNoWant (table_fault.Eulumdat fault) = fault ≢ ldt_fault.Memory

-- ---- as the program keeps and tells it

-- p is the table of the file that the bytes are, each intensity rounded down and up to a tick
pub record IsReadAs (format : Format) (bytes : List ℕ) (p : Table) : Type 0 where
  pub table : Table
  pub of_file : IsTableOfFile format bytes table
  pub rounded : IsRoundedOf p table

abbrev pub table_fault_text : TableFault → List ℕ
table_fault_text (table_fault.Lm63 fault) = ies_text.fault_text fault
table_fault_text (table_fault.Eulumdat fault) = ldt_text.fault_text fault

-- the text names the file and its fault
pub record IsFileRefusal (format : Format) (name bytes : List ℕ) (given : Status) (text : List ℕ) : Type 0 where
  pub status_is : given ≡ status.Refused
  pub fault : TableFault
  pub no_want : IsNoWant fault
  pub refused : IsFaultOfFile format bytes fault
  pub text_is : text ≡ line (codes "refused " ++ name ++ codes " " ++ table_fault_text fault)

-- ---- the answers to `read` and to `flux`

-- the text sums up the table of the file
pub record IsFileSummary (format : Format) (bytes : List ℕ) (given : Status) (text : List ℕ) : Type 0 where
  pub status_is : given ≡ status.Done
  pub table : Table
  pub is : IsReadAs format bytes table
  pub summary : IsSummary table text

-- the text tells the flux of the exact table of the file, and whether the printed one reaches so many lumens
pub record IsFileFlux (lumens : ℕ) (format : Format) (bytes : List ℕ) (given : Status) (text : List ℕ) : Type 0 where
  pub status_is : given ≡ status.Done
  pub table : Table
  pub is : IsReadAs format bytes table
  pub right : IsRightText table is.table lumens text

-- what is asked of the file
abbrev pub IsSaidOfFile : Format → PhotometryQuestion → (bytes : List ℕ) → Status → List ℕ → Type 0
IsSaidOfFile format Summary bytes given text = IsFileSummary format bytes given text
IsSaidOfFile format (Flux lumens) bytes given text = IsFileFlux lumens format bytes given text

-- or why it is refused
abbrev pub IsPhotometryAnswer : Format → PhotometryQuestion → (name bytes : List ℕ) → Status → List ℕ → Type 0
IsPhotometryAnswer format asked name bytes given text = IsSaidOfFile format asked bytes given text ⊎ IsFileRefusal format name bytes given text

-- what is asked of the program's table
abbrev pub IsSaidOfTable : PhotometryQuestion → Table → List ℕ → Type 0
IsSaidOfTable Summary table text = IsSummary table text
IsSaidOfTable (Flux lumens) table text = IsFluxText table lumens text

-- the file is accepted, and so it can be told of
abbrev pub CanSum : Format → List ℕ → Type 0
CanSum Lm63 bytes = (file : IesFile) × (file_of bytes ≡ Ok file)
CanSum (Eulumdat set) bytes = (file : LdtFile) × (ldt (lines_of bytes) set ≡ Ok file)
