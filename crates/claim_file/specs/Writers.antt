-- A writer of CSV into a list of bytes, and what is written.
use Rattle.std.specs.Prelude.{ℕ, ◌≡◌, false, List, ◌++◌, Vec}
use Rattle.std.specs.declared.alloc.Global.{Global}
use Rattle.csv.specs.Writing.{default_writer, fields_written, has_written, writer_pending, writer_setup, writer_under}
use Rattle.csv.specs.declared.writer.Writer.{Writer}

-- it writes as CSV is written by default, and stands between two records
pub record IsPlain (w : Writer (Vec ℕ Global)) : Type 0 where
  pub setup : writer_setup w ≡ default_writer
  pub between : fields_written w ≡ 0
  pub clean : has_written w ≡ false

abbrev pub written : Writer (Vec ℕ Global) → List ℕ
written w = (writer_under w).items ++ writer_pending w
