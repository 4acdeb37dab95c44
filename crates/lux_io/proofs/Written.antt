-- What was written in two pieces.
use Rattle.std.proofs.Common.{◌≡◌, ℕ, ◌+◌, ◌-◌, List, ◌++◌, length, take, drop, Option, Some, None, refl, ap, sym, ◌∙◌, append_assoc, take-add}
use Rattle.std.proofs.lemmas.List.{take_rest}
use Rattle.lux_io.specs.Files.{with_bytes}

-- bytes after bytes are those of both
pub with_both : (written : Option (List ℕ)) (first second : List ℕ) → with_bytes (with_bytes written first) second ≡ with_bytes written (first ++ second)
with_both None first second = refl
with_both (Some before) first second = ap Some (append_assoc before first second)

-- the next n bytes after the first so many are the next ones of the text
pub one_piece_more : (text : List ℕ) (done n : ℕ) → take done text ++ take n (take (length text - done) (drop done text)) ≡ take (done + n) text
one_piece_more text done n = ap (λ rest. take done text ++ take n rest) (take_rest text done) ∙ sym (take-add done n text)

-- what was written in a further piece
pub written_further : (before then now : Option (List ℕ)) (text : List ℕ) (done n : ℕ) → then ≡ with_bytes before (take done text) → now ≡ with_bytes then (take n (take (length text - done) (drop done text))) → now ≡ with_bytes before (take (done + n) text)
written_further before then now text done n first second =
    second ∙ ap (λ w. with_bytes w (take n (take (length text - done) (drop done text)))) first ∙ with_both before (take done text) (take n (take (length text - done) (drop done text))) ∙ ap (with_bytes before) (one_piece_more text done n)
