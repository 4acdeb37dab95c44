-- Runs of steps that may fail.
use Rattle.std.proofs.Common.{ℕ, zero, suc, ◌+◌, ◌-◌, ◌<◌, ◌≡◌, List, [], ◌∷◌, ◌++◌, length, take, get_or, Ok, Result, refl, ap, sym, ◌∙◌, arith, append_assoc, append-nil}
use Rattle.lm63_read.specs.declared.fault.IesFault.{IesFault}
use Rattle.decimal_text.specs.Steps.{◌>>=◌}
use Rattle.decimal_text.proofs.Steps.{both_gave, gives_both, ok_of}

-- a run gives what is in front and then what each of its steps gives
pub record RunGives {A : Type 0} (next : ℕ → List A → ℕ → Result A IesFault) (k : ℕ) (front : List A) (n : ℕ) (xs : List A) : Type 0 where
  pub rest : List A
  pub whole : xs ≡ front ++ rest
  pub size : length rest ≡ n
  pub each : (i : ℕ) (d : A) → i < n → next (k + i) (front ++ take i rest) (n - 1 - i) ≡ Ok (get_or rest i d)

each_more : {A : Type 0} (next : ℕ → List A → ℕ → Result A IesFault) (k : ℕ) (front : List A) (n : ℕ) (x : A) (rest : List A) → next k front n ≡ Ok x
    → ((i : ℕ) (d : A) → i < n → next (k + 1 + i) ((front ++ x ∷ []) ++ take i rest) (n - 1 - i) ≡ Ok (get_or rest i d))
    → (i : ℕ) (d : A) → i < suc n → next (k + i) (front ++ take i (x ∷ rest)) (suc n - 1 - i) ≡ Ok (get_or (x ∷ rest) i d)
each_more next k front n x rest h each zero d l =
    let a : k + 0 ≡ k = omega arith in
    let b : suc n - 1 - 0 ≡ n = omega arith in
    rw (a, b, append-nil front) h
each_more next k front n x rest h each (suc i) d l =
    let a : k + suc i ≡ k + 1 + i = omega arith in
    let b : suc n - 1 - suc i ≡ n - 1 - i = omega arith in
    rw (a, b, ← append_assoc front (x ∷ []) (take i rest)) (each i d (omega arith))

each_less : {A : Type 0} (next : ℕ → List A → ℕ → Result A IesFault) (k : ℕ) (front : List A) (n : ℕ) (x : A) (rest : List A)
    → ((i : ℕ) (d : A) → i < suc n → next (k + i) (front ++ take i (x ∷ rest)) (suc n - 1 - i) ≡ Ok (get_or (x ∷ rest) i d))
    → (i : ℕ) (d : A) → i < n → next (k + 1 + i) ((front ++ x ∷ []) ++ take i rest) (n - 1 - i) ≡ Ok (get_or rest i d)
each_less next k front n x rest each i d l =
    let a : k + 1 + i ≡ k + suc i = omega arith in
    let b : n - 1 - i ≡ suc n - 1 - suc i = omega arith in
    rw (a, b, append_assoc front (x ∷ []) (take i rest)) (each (suc i) d (omega arith))

pub gives_of_run : {A : Type 0} (next : ℕ → List A → ℕ → Result A IesFault) (run : ℕ → List A → ℕ → Result (List A) IesFault)
    → ((k : ℕ) (front : List A) → run k front 0 ≡ Ok front)
    → ((k : ℕ) (front : List A) (n : ℕ) → run k front (suc n) ≡ (next k front n >>= λ x. run (k + 1) (front ++ x ∷ []) n))
    → (n k : ℕ) (front xs : List A) → run k front n ≡ Ok xs → RunGives next k front n xs
gives_of_run next run none some zero k front xs h =
    record { rest = []; whole = sym (ok_of front xs (sym (none k front) ∙ h)) ∙ sym (append-nil front); size = refl; each = λ i d l. absurd (omega arith) }
gives_of_run next run none some (suc n) k front xs h =
    let s = both_gave (next k front n) (λ x. run (k + 1) (front ++ x ∷ []) n) xs (sym (some k front n) ∙ h) in
    let g = gives_of_run next run none some n (k + 1) (front ++ s.0 ∷ []) xs s.2 in
    let z = g.size in
    record {
      rest = s.0 ∷ g.rest;
      whole = g.whole ∙ append_assoc front (s.0 ∷ []) g.rest;
      size = omega arith;
      each = each_more next k front n s.0 g.rest s.1 g.each;
    }

pub run_of_gives : {A : Type 0} (next : ℕ → List A → ℕ → Result A IesFault) (run : ℕ → List A → ℕ → Result (List A) IesFault)
    → ((k : ℕ) (front : List A) → run k front 0 ≡ Ok front)
    → ((k : ℕ) (front : List A) (n : ℕ) → run k front (suc n) ≡ (next k front n >>= λ x. run (k + 1) (front ++ x ∷ []) n))
    → (rest : List A) (k : ℕ) (front : List A)
    → ((i : ℕ) (d : A) → i < length rest → next (k + i) (front ++ take i rest) (length rest - 1 - i) ≡ Ok (get_or rest i d))
    → run k front (length rest) ≡ Ok (front ++ rest)
run_of_gives next run none some [] k front each = none k front ∙ ap Ok (sym (append-nil front))
run_of_gives next run none some (x ∷ rest) k front each =
    let n = length rest in
    let a : k + 0 ≡ k = omega arith in
    let b : suc n - 1 - 0 ≡ n = omega arith in
    let first = rw (a, b, append-nil front) at (each 0 x (omega arith)) in
    let others = run_of_gives next run none some rest (k + 1) (front ++ x ∷ []) (each_less next k front n x rest each) in
    some k front n ∙ gives_both (next k front n) (λ y. run (k + 1) (front ++ y ∷ []) n) x (front ++ x ∷ rest) first (others ∙ ap Ok (append_assoc front (x ∷ []) rest))
