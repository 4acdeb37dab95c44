-- The number that a field writes, in steps of one digit, each cut at 2^90 + 1.
use Rattle.std.proofs.Common.{ℕ, ◌+◌, ◌<◌, ◌≤◌, ◌≡◌, ◌∙◌, refl, sym, ap, List, [], ◌∷◌, length, true, false, Option, Some, None, arith, inl, inr, ◌^◌, suc, drop, get_or, add-one}
use Rattle.std.proofs.Math.Seq.{drop-cons}
use Rattle.std.proofs.lemmas.List.{drop_all}
use Rattle.std.specs.Prelude.{option_map, fold}
use Rattle.std.specs.Char.{is_ascii_digit}
use Rattle.std.specs.List.{list_all}
use Rattle.std.proofs.lemmas.Bool.{cases_Bool}
use Rattle.claim_file.specs.Numbers.{capped, number_after, with_digit}

-- a number that is cut before a digit is put to it is cut no less after it
cut_again : (n b : ℕ) → capped (with_digit (capped n) b) ≡ capped (with_digit n b)
cut_again n b = omega arith

fold_cut : (bytes : List ℕ) (n m : ℕ) → capped n ≡ capped m → capped (fold with_digit n bytes) ≡ capped (fold with_digit m bytes)
fold_cut [] n m e = e
fold_cut (b ∷ bytes) n m e =
    fold_cut bytes (with_digit n b) (with_digit m b) (sym (cut_again n b) ∙ ap (λ (k : ℕ). capped (with_digit k b)) e ∙ cut_again m b)

pub cut_first : (n m : ℕ) (bytes : List ℕ) → capped n ≡ capped m → option_map capped (number_after n bytes) ≡ option_map capped (number_after m bytes)
unfolding number_after
cut_first n m bytes e = elim (cases_Bool (list_all is_ascii_digit bytes)) [
  | inl all ↦ rw all (ap (λ (k : ℕ). Some k) (fold_cut bytes n m e))
  | inr other ↦ rw other refl
]

one_digit : (n b : ℕ) (bytes : List ℕ) → is_ascii_digit b ≡ true → number_after n (b ∷ bytes) ≡ number_after (with_digit n b) bytes
unfolding number_after
one_digit n b bytes e = rw e refl

-- a byte that is no digit
pub not_a_digit : (n b i : ℕ) (field : List ℕ) → i < length field → get_or field i 0 ≡ b → is_ascii_digit b ≡ false → number_after n (drop i field) ≡ None
unfolding number_after
not_a_digit n b i field inside is e = rw (drop-cons field i 0, is, e) refl

-- one digit more, the number cut
pub next_digit : (n b i : ℕ) (field : List ℕ) → i < length field → get_or field i 0 ≡ b → is_ascii_digit b ≡ true
    → option_map capped (number_after n (drop i field)) ≡ option_map capped (number_after (capped (with_digit n b)) (drop (i + 1) field))
next_digit n b i field inside is e =
    rw (add-one i, drop-cons field i 0, is) (ap (λ (o : Option ℕ). option_map capped o) (one_digit n b (drop (suc i) field) e)
    ∙ cut_first (with_digit n b) (capped (with_digit n b)) (drop (suc i) field) (omega arith))

-- the end
pub is_over : (n i : ℕ) (field : List ℕ) → length field ≤ i → n ≤ 2 ^ 90 + 1 → option_map capped (number_after n (drop i field)) ≡ Some n
unfolding number_after
is_over n i field past small = rw (drop_all i field) (ap (λ (k : ℕ). Some k) (omega arith))
