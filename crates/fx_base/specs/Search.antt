-- The greatest and the least number that pass a test, and the whole square root.
use Rattle.std.specs.Prelude.{ℕ, zero, suc, ◌+◌, ◌*◌, ◌/◌, ◌<◌, ◌≤◌, Bool, true, false, nat_le, nat_eq}

-- the greatest number up to k that passes, and 0 where none above 0 does
unfoldable pub greatest : (ℕ → Bool) → ℕ → ℕ
greatest test zero = 0
greatest test (suc k) = elim (test (suc k)) [ true ↦ suc k | false ↦ greatest test k ]

-- the least number from `start` on that passes, and start + k where none below that does
unfoldable pub least : (ℕ → Bool) → ℕ → ℕ → ℕ
least test zero start = start
least test (suc k) start = elim (test start) [ true ↦ start | false ↦ least test k (suc start) ]

-- k is the greatest whole number whose square is at most n
pub record IsRootOf (n k : ℕ) : Type 0 where
  pub square : k * k ≤ n
  pub next : n < (k + 1) * (k + 1)

-- that number for n below 4^digits, by the digits of n to the base 4
unfoldable pub root_digits : ℕ → ℕ → ℕ
root_digits zero n = 0
root_digits (suc digits) n = elim (nat_eq n 0) [
  | true ↦ 0
  | false ↦ let k = 2 * root_digits digits (n / 4) in elim (nat_le ((k + 1) * (k + 1)) n) [ true ↦ k + 1 | false ↦ k ]
]

-- the greatest whole number whose square is at most n
unfoldable pub whole_root : ℕ → ℕ
whole_root n = root_digits n n
