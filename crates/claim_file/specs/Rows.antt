-- A reader of a text in memory, and the records that it has left.
use Rattle.std.specs.Prelude.{ℕ, ◌+◌, ◌≡◌, ◌≢◌, false, List, [], ◌∷◌, length, Option, Some, None, IfSome}
use Rattle.std.specs.Borrow.{Bor}
use Rattle.csv.specs.Machine.{ends_at_end}
use Rattle.csv.specs.Reading.{default_config, records_from, reader_config, reader_trim, reader_state, is_flexible, expected_len, source_of, Ready}
use Rattle.csv.specs.declared.reader.Reader.{Reader}
use Rattle.csv.specs.declared.reader.Trim.TheVariants as trim
use Rattle.csv.specs.declared.parser.State.{State}
use Rattle.claim_file.specs.declared.rows.Taken.{Taken}
use Rattle.claim_file.specs.declared.rows.Taken.TheVariants as taken

-- of bytes in memory all are known
abbrev pub bytes_left : Bor (List ℕ) → Option (List ℕ)
bytes_left source = Some source.now

-- it reads as CSV is read by default, stands between two records, and its bytes are known
pub record IsAt (r : Reader (Bor (List ℕ))) : Type 0 where
  pub plain : reader_trim r ≡ trim.None
  pub config : reader_config r ≡ default_config
  pub strict : is_flexible r ≡ false
  pub ready : Ready r
  pub between : ends_at_end (reader_state r) ≡ false
  pub bytes : List ℕ
  pub known : source_of bytes_left r ≡ Some bytes

-- every record of a text, from a state between two records
abbrev pub records_at : State → Option (List ℕ) → List (List (List ℕ))
records_at s None = []
records_at s (Some bytes) = records_from default_config (length bytes + 1) s bytes

-- the records that a reader has left
unfoldable pub rows_left : Reader (Bor (List ℕ)) → List (List (List ℕ))
rows_left r = records_at (reader_state r) (source_of bytes_left r)

-- the next record was taken, and has the length that was expected, where one was
pub record IsTaken (old new : Reader (Bor (List ℕ))) (fields : List (List ℕ)) : Type 0 where
  pub at : IsAt new
  pub width : expected_len new ≡ Some (length fields)
  pub even : IfSome (expected_len old) (λ expected. length fields ≡ expected)
  pub rows : rows_left old ≡ fields ∷ rows_left new

-- the next record has another length than was expected
pub record IsUneven (old : Reader (Bor (List ℕ))) : Type 0 where
  pub width : ℕ
  pub expected : expected_len old ≡ Some width
  pub fields : List (List ℕ)
  pub uneven : length fields ≢ width
  pub more : List (List (List ℕ))
  pub rows : rows_left old ≡ fields ∷ more

-- what a reader answers that was asked for its next record
unfoldable pub Answers : Taken → Reader (Bor (List ℕ)) → Reader (Bor (List ℕ)) → List (List ℕ) → Type 0
Answers taken.Record old new fields = IsTaken old new fields
Answers taken.OtherLength old new fields = IsUneven old
Answers taken.End old new fields = rows_left old ≡ []
