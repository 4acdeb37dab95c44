-- The number that the first digits of a word say.
use Rattle.std.proofs.Common.{ℕ, ◌+◌, ◌-◌, ◌*◌, ◌<◌, ◌≤◌, ◌≡◌, ◌∙◌, min, List, [], ◌∷◌, ◌++◌, length, take, take-suc, take_all, slice_index_or, add-one, ap, refl, sym, arith}
use Rattle.lux_core.specs.Commands.{number_after}

number_snoc : (n : ℕ) (xs : List ℕ) (d : ℕ) → number_after n (xs ++ (d ∷ [])) ≡ number_after n xs * 10 + (d - 48)
unfolding number_after
number_snoc n [] d = refl
number_snoc n (x ∷ xs) d = number_snoc (n * 10 + (x - 48)) xs d

capped : (x d : ℕ) → min (min x 10000000000 * 10 + d) 10000000000 ≡ min (x * 10 + d) 10000000000
capped x d = grind arith

-- the number of the first digits, and 10,000,000,000 where it is more
pub record IsNumberSoFar (bytes : List ℕ) (index number : ℕ) : Type 0 where
  pub is : number ≡ min (number_after 0 (take index bytes)) 10000000000

pub number_begins : (bytes : List ℕ) → IsNumberSoFar bytes 0 0
unfolding number_after
number_begins bytes = record { is = refl }

pub most : (bytes : List ℕ) (index number : ℕ) → IsNumberSoFar bytes index number → number ≤ 10000000000
most bytes index number so_far = let e = so_far.is in grind arith

pub one_digit_more : (bytes : List ℕ) (index number : ℕ) → index < length bytes → IsNumberSoFar bytes index number
    → IsNumberSoFar bytes (index + 1) (min (number * 10 + (slice_index_or bytes index 0 - 48)) 10000000000)
one_digit_more bytes index number l so_far =
    let d = slice_index_or bytes index 0 - 48 in
    let longer : number_after 0 (take (index + 1) bytes) ≡ number_after 0 (take index bytes) * 10 + d =
    rw add-one (ap (number_after 0) (take-suc bytes index 0 l)) ∙ number_snoc 0 (take index bytes) (slice_index_or bytes index 0) in
    record { is = ap (λ (z : ℕ). min (z * 10 + d) 10000000000) so_far.is ∙ capped (number_after 0 (take index bytes)) d ∙ ap (λ (z : ℕ). min z 10000000000) (sym longer) }

pub number_ends : (bytes : List ℕ) (index number : ℕ) → length bytes ≤ index → IsNumberSoFar bytes index number → number ≡ min (number_after 0 bytes) 10000000000
number_ends bytes index number l so_far = so_far.is ∙ ap (λ (xs : List ℕ). min (number_after 0 xs) 10000000000) (take_all index bytes l)
