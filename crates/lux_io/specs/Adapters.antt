-- What clauses see of the shelf over real files and of the sink over standard output: counts, and no content.
use Rattle.std.specs.Prelude.{◌≡◌, ℕ, ◌<◌, Bool, is_some, List, [], length, take, Option, None}
use Rattle.std.specs.Io.KnownBytes.{Consumes, IsAtEnd}
use Rattle.std.specs.Option.{option_and_then}
use Rattle.lux_io.specs.declared.folder.FolderShelf.{FolderShelf}
use Rattle.lux_io.specs.declared.output.OutSink.{OutSink}

-- it tells no files, and not what a file holds
abbrev pub folder_files : {R F D : Type 0} → FolderShelf R F D → Option (List (List ℕ × List ℕ))
folder_files shelf = None

abbrev pub folder_file : {R F D : Type 0} → FolderShelf R F D → List ℕ
folder_file shelf = []

-- whether a file is open
abbrev pub folder_is_open : {R F D : Type 0} → FolderShelf R F D → Bool
folder_is_open shelf = is_some shelf.file

-- how many bytes were taken from the file that was opened last
abbrev pub folder_taken : {R F D : Type 0} → FolderShelf R F D → ℕ
folder_taken shelf = shelf.taken

abbrev pub folder_faults : {R F D : Type 0} → FolderShelf R F D → ℕ
folder_faults shelf = shelf.faults

abbrev pub folder_absences : {R F D : Type 0} → FolderShelf R F D → ℕ
folder_absences shelf = shelf.absences

-- what is left of the open file, where its kind of file says so
abbrev pub folder_rest : {R F D : Type 0} → (F → Option (List ℕ)) → FolderShelf R F D → Option (List ℕ)
folder_rest rest_of shelf = option_and_then rest_of shelf.file

-- the front of the piece has the next n bytes of what is left, and n is 0 only where nothing is
pub record TakesNext (left now : Option (List ℕ)) (piece : List ℕ) (n : ℕ) : Type 0 where
  pub next : Consumes left now (take n piece)
  pub end : n ≡ 0 → 0 < length piece → IsAtEnd now

abbrev pub output_faults : {R : Type 0} → OutSink R → ℕ
output_faults sink = sink.faults
