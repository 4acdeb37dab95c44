-- What holds before each turn of the loops of `read_entries`.
use Rattle.std.proofs.Common.{◌≡◌, All, Some, length}
use Rattle.csv.specs.Reading.{expected_len}
use Rattle.fx_base.specs.Bound.{IsEnd}
use Rattle.claim_file.specs.Claims.{claim_from, entries_of}
use Rattle.claim_file.specs.Rows.{IsAt, rows_left}
use Rattle.claim_file.proofs.Entries.{behind}
use Rattle.claim_file.proofs.read.read_entries.Given as goal

abbrev pub invariant-loop-n : goal.invariant-loop-n
invariant-loop-n l = record {
  at : IsAt l.reader;
  width : expected_len l.reader ≡ Some l.fn.width;
  lower_size : length l.lower.items ≡ l.n;
  upper_size : length l.upper.items ≡ l.n;
  lower_ends : All IsEnd l.lower.items;
  upper_ends : All IsEnd l.upper.items;
  so_far : claim_from l.patches l.fn.width (rows_left l.initial.reader)
      ≡ behind l.lower.items l.upper.items (entries_of l.patches l.fn.width l.n (rows_left l.reader));
}
