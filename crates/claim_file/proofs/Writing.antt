-- What the writing of a claim has come to.
use Rattle.std.proofs.Common.{ℕ, ◌+◌, ◌<◌, ◌≤◌, ◌≡◌, ◌∙◌, refl, sym, ap, List, ◌++◌, length, drop, get_or, append_assoc, add-one}
use Rattle.std.proofs.Math.Seq.{drop-cons}
use Rattle.std.proofs.lemmas.List.{append-nil, drop_all}
use Rattle.csv.specs.Writing.{default_writer, row_text}
use Rattle.fx_base.specs.declared.Tick.{Tick}
use Rattle.claim_file.specs.Written.{claim_bytes, claim_rows, header, patch_row, rows_text}

pub header_first : (lower upper : List Tick) → claim_bytes lower upper ≡ row_text default_writer header ++ rows_text (claim_rows 0 lower upper)
unfolding rows_text
header_first lower upper = refl

-- the record of patch n, and those of the patches after it
patch_first : (n : ℕ) (lower upper : List Tick) (low high : Tick) → n < length lower → n < length upper → low ≡ get_or lower n low → high ≡ get_or upper n high
    → rows_text (claim_rows n (drop n lower) (drop n upper))
    ≡ row_text default_writer (patch_row n low high) ++ rows_text (claim_rows (n + 1) (drop (n + 1) lower) (drop (n + 1) upper))
unfolding claim_rows rows_text
patch_first n lower upper low high l u e f = rw (drop-cons lower n low, drop-cons upper n high, ← e, ← f, add-one n) refl

pub patch_more : (n : ℕ) (lower upper : List Tick) (low high : Tick) (text before after : List ℕ) → n < length lower → n < length upper
    → low ≡ get_or lower n low → high ≡ get_or upper n high
    → text ≡ before ++ rows_text (claim_rows n (drop n lower) (drop n upper))
    → after ≡ before ++ row_text default_writer (patch_row n low high)
    → text ≡ after ++ rows_text (claim_rows (n + 1) (drop (n + 1) lower) (drop (n + 1) upper))
patch_more n lower upper low high text before after l u e f so_far now =
    so_far ∙ ap (λ (t : List ℕ). before ++ t) (patch_first n lower upper low high l u e f)
    ∙ sym (append_assoc before (row_text default_writer (patch_row n low high))
    (rows_text (claim_rows (n + 1) (drop (n + 1) lower) (drop (n + 1) upper))))
    ∙ ap (λ (t : List ℕ). t ++ rows_text (claim_rows (n + 1) (drop (n + 1) lower) (drop (n + 1) upper))) (sym now)

pub all_written : (n : ℕ) (lower upper : List Tick) (text before : List ℕ) → length lower ≤ n
    → text ≡ before ++ rows_text (claim_rows n (drop n lower) (drop n upper)) → text ≡ before
unfolding claim_rows rows_text
all_written n lower upper text before past so_far = so_far ∙ rw (drop_all n lower) (append-nil before)
