-- Items by their places.
use Rattle.std.proofs.Common.{ℕ, zero, suc, ◌+◌, ◌-◌, ◌<◌, ◌≤◌, ◌≡◌, List, [], ◌∷◌, length, drop, get_or, Ok, Err, arith}
use Rattle.std.proofs.lemmas.Bool.Decides.{nat_tests}
use Rattle.lm63_read.specs.Reads.{item_at}
use Rattle.lm63_read.specs.declared.fault.IesFault.TheVariants as fault

-- x is the one at place n, and the others stand behind it
pub record Stands (items : List (List ℕ)) (n : ℕ) (x : List ℕ) (others : List (List ℕ)) : Type 0 where
  pub within : n < length items
  pub at : get_or items n [] ≡ x
  pub behind : drop (n + 1) items ≡ others

pub stands : (items : List (List ℕ)) (n : ℕ) (x : List ℕ) (others : List (List ℕ)) → drop n items ≡ x ∷ others → Stands items n x others
stands [] zero x others e = absurd (cc)
stands [] (suc n) x others e = absurd (cc)
stands (y ∷ items) zero x others e = record { within = omega arith; at = cc; behind = cc }
stands (y ∷ items) (suc n) x others e =
    let h = stands items n x others e in
    let s : suc n + 1 ≡ suc (n + 1) = omega arith in
    record { within = let w = h.within in omega arith; at = h.at; behind = rw s h.behind }

-- where nothing stands behind n items, there are no more
pub none_behind : (items : List (List ℕ)) (n : ℕ) → drop n items ≡ [] → length items ≤ n
none_behind [] n e = omega arith
none_behind (y ∷ items) zero e = absurd (cc)
none_behind (y ∷ items) (suc n) e = let h = none_behind items n e in omega arith

pub item_there : (items : List (List ℕ)) (n : ℕ) (x : List ℕ) (others : List (List ℕ)) → Stands items n x others → item_at items (n + 1) ≡ Ok x
unfolding item_at
item_there items n x others h =
    let w = h.within in
    let s : n + 1 - 1 ≡ n = omega arith in
    let l : n + 1 ≤ length items = omega arith in
    rw s (grind (arith, nat_tests, h.at))

pub item_missing : (items : List (List ℕ)) (n k : ℕ) → length items ≡ n → n < k → item_at items k ≡ Err (fault.Short (n + 1))
unfolding item_at
item_missing items n k e h = rw e (grind (arith, nat_tests))
