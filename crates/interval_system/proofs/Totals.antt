-- Sums f 0 + .. + f (n - 1) of whole numbers.
use Rattle.std.proofs.Common.{ℕ, zero, suc, ◌+◌, ◌*◌, ◌<◌, ◌≤◌, ◌≡◌, refl, sym, ap, ◌∙◌, inl, inr, List, [], ◌∷◌, length, get_or, sum_by, arith}
use Rattle.std.proofs.lemmas.Bool.{cases_lt}
use Rattle.std.proofs.lemmas.List.Sums.{sum_by-cons}
use Rattle.interval_system.specs.Whole.{total}

pub total-le : (n : ℕ) (f g : ℕ → ℕ) → ((j : ℕ) → j < n → f j ≤ g j) → total n f ≤ total n g
total-le zero f g h = omega arith
total-le (suc n) f g h = omega (arith, total-le n f g (λ j l. h j (omega arith)), h n (omega arith))

pub total-same : (n : ℕ) (f g : ℕ → ℕ) → ((j : ℕ) → j < n → f j ≡ g j) → total n f ≡ total n g
total-same zero f g h = refl
total-same (suc n) f g h = omega (arith, total-same n f g (λ j l. h j (omega arith)), h n (omega arith))

pub total-zero : (n : ℕ) → total n (λ j. 0) ≡ 0
total-zero zero = refl
total-zero (suc n) = omega (arith, total-zero n)

-- scaled and added
pub total-mix : (n c d : ℕ) (k f g : ℕ → ℕ)
    → total n (λ j. k j * (c * f j + d * g j)) ≡ c * total n (λ j. k j * f j) + d * total n (λ j. k j * g j)
total-mix zero c d k f g = omega arith
total-mix (suc n) c d k f g = omega (arith, total-mix n c d k f g)

pub total-times : (n c : ℕ) (k f : ℕ → ℕ) → total n (λ j. k j * (c * f j)) ≡ c * total n (λ j. k j * f j)
total-times zero c k f = omega arith
total-times (suc n) c k f = omega (arith, total-times n c k f)

pub total-scale : (n c : ℕ) (f : ℕ → ℕ) → total n (λ j. c * f j) ≡ c * total n f
total-scale zero c f = omega arith
total-scale (suc n) c f = omega (arith, total-scale n c f)

-- one term is at most the sum
pub at-le-total : (n : ℕ) (f : ℕ → ℕ) (i : ℕ) → i < n → f i ≤ total n f
at-le-total zero f i l = absurd (omega (arith, l))
at-le-total (suc n) f i l = elim (cases_lt i n) [
  | inl w ↦ omega (arith, at-le-total n f i w)
  | inr w ↦ let e : i ≡ n = omega arith in omega (arith, ap f e)
]

-- the first term apart
pub total-first : (n : ℕ) (f : ℕ → ℕ) → total (suc n) f ≡ f 0 + total n (λ j. f (suc j))
total-first zero f = omega arith
total-first (suc n) f = omega (arith, total-first n f)

-- the sum over a list is that over its places
pub sum_by-total : {X : Type 0} (f : X → ℕ) (xs : List X) (d : X) → sum_by f xs ≡ total (length xs) (λ j. f (get_or xs j d))
sum_by-total f [] d = refl
sum_by-total f (x ∷ xs) d =
    let first : total (suc (length xs)) (λ j. f (get_or (x ∷ xs) j d)) ≡ f x + total (length xs) (λ j. f (get_or xs j d))
    = total-first (length xs) (λ j. f (get_or (x ∷ xs) j d)) in
    sum_by-cons f x xs ∙ ap (λ (z : ℕ). f x + z) (sum_by-total f xs d) ∙ sym first
