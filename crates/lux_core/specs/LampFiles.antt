-- The photometric files of a room's lamps, read one after the other in the order in which the layout first names them.
use Rattle.std.specs.Prelude.{ℕ, ◌≡◌, ◌<◌, ◌⊎◌, List, [], ◌∷◌, length, map, slice_index_or, Option, Some}
use Rattle.photo_table.specs.Table.{Table}
use Rattle.direct_light.specs.Shares.{no_table}
use Rattle.room_layout.specs.declared.room.FileUse.{FileUse}
use Rattle.room_layout.specs.declared.room.Room.{Room}
use Rattle.lux_core.specs.Commands.{format_of}
use Rattle.lux_core.specs.Photometry.{IsTableOfFile, IsFileRefusal}
use Rattle.lux_core.specs.Runs.{Run, EndedWith, IsContent}
use Rattle.lux_core.specs.Untaken.{IsUntaken}
use Rattle.lux_core.specs.declared.status.Status.{Status}

abbrev pub no_file : FileUse
no_file = record { name = []; set = 0 }

abbrev pub file_at : List FileUse → ℕ → FileUse
file_at files k = slice_index_or files k no_file

-- what was read of a file: its bytes, and the exact table that they are
pub record LampFile : Type 0 where
  pub bytes : List ℕ
  pub table : Table

abbrev pub nothing_read : LampFile
nothing_read = record { bytes = []; table = no_table }

-- the file of a name, for a lamp set, was read whole and accepted
pub record WasRead (told : Option (List (List ℕ × List ℕ))) (file : FileUse) (read : LampFile) : Type 0 where
  pub content : IsContent told file.name read.bytes
  pub table : IsTableOfFile (format_of file.name file.set) read.bytes read.table

-- each of the first files was, in their order
pub record WereRead (told : Option (List (List ℕ × List ℕ))) (files : List FileUse) (reads : List LampFile) : Type 0 where
  pub each : (k : ℕ) → k < length reads → WasRead told (file_at files k) (slice_index_or reads k nothing_read)

-- the bytes that were read last: those of the last of these files, and where there are none those that were read before them
abbrev pub last_read : Option (List ℕ) → List LampFile → Option (List ℕ)
last_read before [] = before
last_read before (read ∷ more) = last_read (Some read.bytes) more

abbrev pub tables_of : List LampFile → List Table
tables_of reads = map (λ read. read.table) reads

-- the files of a room's lamps were all read
pub record HasLampFiles (r : Run) (room : Room) (reads : List LampFile) : Type 0 where
  pub all : length reads ≡ length room.files
  pub read : WereRead r.files room.files reads

-- ---- a file that stands in the way

-- its format refuses its bytes
pub record IsRefusedFile (r : Run) (file : FileUse) (given : Status) (text : List ℕ) : Type 0 where
  pub bytes : List ℕ
  pub content : IsContent r.files file.name bytes
  pub ended : EndedWith r (Some bytes)
  pub refusal : IsFileRefusal (format_of file.name file.set) file.name bytes given text

-- or it can't be taken from the shelf
abbrev pub IsUnreadFile : Run → FileUse → Status → List ℕ → Type 0
IsUnreadFile r file given text = IsUntaken r file.name given text ⊎ IsRefusedFile r file given text

-- the files before it were read
pub record HasUnreadFile (r : Run) (files : List FileUse) (given : Status) (text : List ℕ) : Type 0 where
  pub before : List LampFile
  pub within : length before < length files
  pub read : WereRead r.files files before
  pub unread : IsUnreadFile r (file_at files (length before)) given text
