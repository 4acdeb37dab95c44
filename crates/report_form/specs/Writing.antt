-- What a writer of records into a `Vec` has written.
use Rattle.std.specs.Prelude.{ℕ, ◌≡◌, ◌++◌, false, List, Vec}
use Rattle.std.specs.declared.alloc.Global.{Global}
use Rattle.csv.specs.Writing.{default_writer, fields_written, has_written, writer_pending, writer_setup, writer_under}
use Rattle.csv.specs.declared.writer.Writer.{Writer}

-- the bytes so far
abbrev pub text_of : Writer (Vec ℕ Global) → List ℕ
text_of w = (writer_under w).items ++ writer_pending w

-- it writes by default and is between two records
pub record IsBetween (w : Writer (Vec ℕ Global)) : Type 0 where
  pub setup : writer_setup w ≡ default_writer
  pub no_field : fields_written w ≡ 0
  pub no_byte : has_written w ≡ false
