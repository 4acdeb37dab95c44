-- Intensities in the words of the grammar.
use Rattle.std.proofs.Common.{ℕ, ◌+◌, ◌<◌, ◌≡◌, List, [], length, get_or, Ok, refl, sym, subst, arith}
use Rattle.std.proofs.lemmas.List.{get_or_default}
use Rattle.lm63_read.specs.Values.{value_at, values_at}
use Rattle.lm63_read.specs.Grammar.{AreProducts}
use Rattle.lm63_read.proofs.Steps.{gives_of_run, run_of_gives}
use Rattle.lm63_read.proofs.Said.{product_of, of_product}

pub products_of : (items : List (List ℕ)) (k n factor : ℕ) (vs : List ℕ) → values_at items k factor [] n ≡ Ok vs → AreProducts items k n factor vs
unfolding values_at
products_of items k n factor vs h =
    let g = gives_of_run (λ j front left. value_at items j factor) (λ j front m. values_at items j factor front m) (λ j front. refl) (λ j front m. refl) n k [] vs h in
    let P : List ℕ → Type 0 = λ ws. AreProducts items k n factor ws in
    subst P (sym g.whole) (record { size = g.size; each = λ i l. product_of items (k + i) factor (get_or g.rest i 0) (g.each i 0 l) })

pub of_products : (items : List (List ℕ)) (k n factor : ℕ) (vs : List ℕ) → AreProducts items k n factor vs → values_at items k factor [] n ≡ Ok vs
unfolding values_at
of_products items k n factor vs h =
    let e = h.size in
    let each : (i d : ℕ) → i < length vs → value_at items (k + i) factor ≡ Ok (get_or vs i d) =
    λ i d l. rw (get_or_default vs i d 0 l) (of_product items (k + i) factor (get_or vs i 0) (h.each i (omega arith))) in
    let P : ℕ → Type 0 = λ m. values_at items k factor [] m ≡ Ok vs in
    subst P e (run_of_gives (λ j front left. value_at items j factor) (λ j front m. values_at items j factor front m) (λ j front. refl) (λ j front m. refl) vs k [] each)
