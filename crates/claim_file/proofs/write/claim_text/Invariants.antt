-- What holds before each turn of the loops of `claim_text`.
use Rattle.std.proofs.Common.{◌≡◌, ◌++◌, drop}
use Rattle.claim_file.specs.Writers.{IsPlain, written}
use Rattle.claim_file.specs.Written.{claim_bytes, claim_rows, rows_text}
use Rattle.claim_file.proofs.write.claim_text.Given as goal

abbrev pub invariant-loop-n : goal.invariant-loop-n
invariant-loop-n l = record {
  plain : IsPlain l.writer;
  so_far : claim_bytes l.bounds.lower.items l.bounds.upper.items
      ≡ written l.writer ++ rows_text (claim_rows l.n (drop l.n l.bounds.lower.items) (drop l.n l.bounds.upper.items));
}
