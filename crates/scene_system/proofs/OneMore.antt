-- Lists with one element more.
use Rattle.std.proofs.Common.{ℕ, ◌+◌, ◌<◌, ◌≡◌, List, [], ◌∷◌, ◌++◌, length, get_or, ap, subst, sym, arith, ◌∙◌}
use Rattle.std.proofs.Math.ListN.{get_or-append}
use Rattle.std.proofs.Math.Seq.{get_or-append_seam}
use Rattle.std.proofs.lemmas.List.{length_push}

pub before : {X : Type 0} (xs : List X) (x d : X) (k : ℕ) → k < length xs → get_or (xs ++ x ∷ []) k d ≡ get_or xs k d
before xs x d k l = get_or-append xs (x ∷ []) d k l

-- what holds of the new element holds at its number
pub at_last : {X : Type 0} (xs : List X) (x d : X) (n k : ℕ) (P : X → Type 0) → length xs ≡ n → k ≡ n → P x → P (get_or (xs ++ x ∷ []) k d)
at_last xs x d n k P e f h = subst P (sym (ap (λ (i : ℕ). get_or (xs ++ x ∷ []) i d) (f ∙ sym e) ∙ get_or-append_seam xs x [] d)) h

pub longer : {X : Type 0} (xs : List X) (x : X) (n : ℕ) → length xs ≡ n → length (xs ++ x ∷ []) ≡ n + 1
longer xs x n e = let more = length_push xs x in omega (arith, more, e)
