-- What clauses see of a shelf in memory.
use Rattle.std.specs.Prelude.{◌≡◌, ℕ, Bool, List, [], length, map, nat_lt, slice_get, unwrap_or}
use Rattle.std.specs.Option.{option_map}
use Rattle.std.specs.String.{string_bytes}
use Rattle.lux_io.specs.declared.mem_shelf.MemShelf.{MemShelf}
use Rattle.lux_io.specs.declared.mem_shelf.Stored.{Stored}

-- a stored file as its name and its bytes
abbrev pub named : Stored → List ℕ × List ℕ
named stored = (string_bytes stored.name, stored.bytes.items)

-- the files of the shelf
abbrev pub shelf_files : MemShelf → List (List ℕ × List ℕ)
shelf_files shelf = map named shelf.files.items

-- whether a file is open
abbrev pub shelf_is_open : MemShelf → Bool
shelf_is_open shelf = nat_lt shelf.at (length shelf.files.items)

-- the bytes of the stored file at this place
abbrev pub bytes_at : List Stored → ℕ → List ℕ
bytes_at files place = unwrap_or (option_map (λ stored. stored.bytes.items) (slice_get files place)) []

-- the bytes of the open file
abbrev pub shelf_file : MemShelf → List ℕ
shelf_file shelf = bytes_at shelf.files.items shelf.at

-- how many bytes were taken from the open file
abbrev pub shelf_taken : MemShelf → ℕ
shelf_taken shelf = shelf.taken

-- the numbers of the calls that fail
abbrev pub shelf_failing : MemShelf → List ℕ
shelf_failing shelf = shelf.failing.items

-- the number of the next call
abbrev pub shelf_calls : MemShelf → ℕ
shelf_calls shelf = shelf.calls

abbrev pub shelf_faults : MemShelf → ℕ
shelf_faults shelf = shelf.faults

abbrev pub shelf_absences : MemShelf → ℕ
shelf_absences shelf = shelf.absences

-- nothing of the shelf changed that a call could show
pub record IsSameShelf (old new : MemShelf) : Type 0 where
  pub files : shelf_files new ≡ shelf_files old
  pub is_open : shelf_is_open new ≡ shelf_is_open old
  pub file : shelf_file new ≡ shelf_file old
  pub taken : shelf_taken new ≡ shelf_taken old
