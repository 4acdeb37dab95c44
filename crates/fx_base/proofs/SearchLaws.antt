-- The greatest and the least number that pass a test.
use Rattle.std.proofs.Common.{ℕ, zero, suc, ◌+◌, ◌*◌, ◌/◌, ◌^◌, ◌<◌, ◌≤◌, ◌≡◌, ◌⊎◌, inl, inr, Bool, true, false, arith, refl, nat_le, nat_eq}
use Rattle.std.proofs.Math.Nat.{mul-le-mul, mul-le-mul_left, pow-suc}
use Rattle.std.proofs.lemmas.Bool.{cases_lt}
use Rattle.std.proofs.lemmas.Bool.Decides.{nat_tests}
use Rattle.fx_base.specs.Search.{greatest, least, IsRootOf, root_digits, whole_root}

-- a test of a Bool with its equation
pub is_true_or_false : (b : Bool) → (b ≡ true) ⊎ (b ≡ false)
is_true_or_false true = inl refl
is_true_or_false false = inr refl

pub greatest_here : (test : ℕ → Bool) (k : ℕ) → test (suc k) ≡ true → greatest test (suc k) ≡ suc k
unfolding greatest
greatest_here test k e = rw (e, greatest) refl

pub greatest_below : (test : ℕ → Bool) (k : ℕ) → test (suc k) ≡ false → greatest test (suc k) ≡ greatest test k
unfolding greatest
greatest_below test k e = rw (e, greatest) refl

-- it is at most the bound
pub greatest_within : (test : ℕ → Bool) (k : ℕ) → greatest test k ≤ k
unfolding greatest
greatest_within test zero = omega arith
greatest_within test (suc k) = elim (is_true_or_false (test (suc k))) [
  | inl t ↦ rw (greatest_here test k t) (omega arith)
  | inr f ↦ let g = greatest_within test k in rw (greatest_below test k f) (omega arith)
]

-- it passes, where 0 passes
pub greatest_passes : (test : ℕ → Bool) (k : ℕ) → test 0 ≡ true → test (greatest test k) ≡ true
unfolding greatest
greatest_passes test zero h = h
greatest_passes test (suc k) h = elim (is_true_or_false (test (suc k))) [
  | inl t ↦ rw (greatest_here test k t) t
  | inr f ↦ rw (greatest_below test k f) (greatest_passes test k h)
]

-- what passes is at most it
pub greatest_most : (test : ℕ → Bool) (k j : ℕ) → j ≤ k → test j ≡ true → j ≤ greatest test k
unfolding greatest
greatest_most test zero j h t = omega arith
greatest_most test (suc k) j h t = elim (is_true_or_false (test (suc k))) [
  | inl y ↦ rw (greatest_here test k y) (omega arith)
  | inr f ↦ rw (greatest_below test k f) (elim (cases_lt k j) [
    | inl l ↦ let e : j ≡ suc k = omega arith in let y : test (suc k) ≡ true = rw e at t in cc
    | inr g ↦ greatest_most test k j g t
  ])
]

least_here : (test : ℕ → Bool) (k i : ℕ) → test i ≡ true → least test (suc k) i ≡ i
unfolding least
least_here test k i e = rw (e, least) refl

least_later : (test : ℕ → Bool) (k i : ℕ) → test i ≡ false → least test (suc k) i ≡ least test k (suc i)
unfolding least
least_later test k i e = rw (e, least) refl

-- it lies from the start to the end
pub least_from : (test : ℕ → Bool) (k i : ℕ) → i ≤ least test k i
unfolding least
least_from test zero i = omega arith
least_from test (suc k) i = elim (is_true_or_false (test i)) [
  | inl t ↦ rw (least_here test k i t) (omega arith)
  | inr f ↦ let g = least_from test k (suc i) in rw (least_later test k i f) (omega arith)
]

pub least_within : (test : ℕ → Bool) (k i : ℕ) → least test k i ≤ i + k
unfolding least
least_within test zero i = omega arith
least_within test (suc k) i = elim (is_true_or_false (test i)) [
  | inl t ↦ rw (least_here test k i t) (omega arith)
  | inr f ↦ let g = least_within test k (suc i) in rw (least_later test k i f) (omega arith)
]

-- it passes, or it is the end
pub least_passes : (test : ℕ → Bool) (k i : ℕ) → (test (least test k i) ≡ true) ⊎ (least test k i ≡ i + k)
unfolding least
least_passes test zero i = inr (omega arith)
least_passes test (suc k) i = elim (is_true_or_false (test i)) [
  | inl t ↦ inl (rw (least_here test k i t) t)
  | inr f ↦ elim (least_passes test k (suc i)) [
    | inl y ↦ inl (rw (least_later test k i f) y)
    | inr e ↦ inr (rw (least_later test k i f) (omega arith))
  ]
]

-- it is at most what passes
pub least_least : (test : ℕ → Bool) (k i j : ℕ) → i ≤ j → test j ≡ true → least test k i ≤ j
unfolding least
least_least test zero i j h t = omega arith
least_least test (suc k) i j h t = elim (is_true_or_false (test i)) [
  | inl y ↦ rw (least_here test k i y) (omega arith)
  | inr f ↦ rw (least_later test k i f) (elim (cases_lt i j) [
    | inl l ↦ least_least test k (suc i) j (omega arith) t
    | inr g ↦ let e : j ≡ i = omega arith in let y : test i ≡ true = rw e at t in cc
  ])
]

-- ---- the whole root

-- a square at most that of another number
pub square_lt : (a b n : ℕ) → a * a ≤ n → n < b * b → a < b
square_lt a b n g h = elim (cases_lt a b) [
  | inl l ↦ l
  | inr k ↦ absurd (omega (arith, mul-le-mul {n₁ = b} {m₁ = b} {n₂ = a} {m₂ = a} k k))
]

pub square_le : (a b : ℕ) → a * a ≤ b * b → a ≤ b
square_le a b h = elim (cases_lt b a) [
  | inl l ↦ let k : b + 1 ≤ a = omega arith in absurd (omega (arith, mul-le-mul {n₁ = b + 1} {m₁ = b + 1} {n₂ = a} {m₂ = a} k k))
  | inr k ↦ k
]

-- one digit more
next_digit : (q n : ℕ) → IsRootOf (n / 4) q → (t : Bool) → (t ≡ nat_le ((2 * q + 1) * (2 * q + 1)) n)
    → IsRootOf n (elim t [ true ↦ 2 * q + 1 | false ↦ 2 * q ])
next_digit q n r true e = let g = r.square in let h = r.next in
    let k : (2 * q + 1) * (2 * q + 1) ≤ n = grind (arith, nat_tests) in
    record {
      square = k;
      next = omega (arith, mul-le-mul_left 4 g, mul-le-mul_left 4 h);
    }
next_digit q n r false e = let g = r.square in let h = r.next in
    let k : n < (2 * q + 1) * (2 * q + 1) = grind (arith, nat_tests) in
    record { square = omega (arith, mul-le-mul_left 4 g); next = k }

by_digits : (digits n : ℕ) → n < 4 ^ digits → IsRootOf n (root_digits digits n)
unfolding root_digits
by_digits zero n h = record { square = omega arith; next = omega arith }
by_digits (suc d) n h =
    let g : n < 4 ^ d * 4 = rw pow-suc at h in
    let r : IsRootOf (n / 4) (root_digits d (n / 4)) = by_digits d (n / 4) (omega arith) in
    elim (is_true_or_false (nat_eq n 0)) [
      | inl t ↦ let z : n ≡ 0 = grind (arith, nat_tests) in
          rw (t, root_digits) (record { square = omega arith; next = omega arith })
      | inr f ↦ rw (f, root_digits) (next_digit (root_digits d (n / 4)) n r (nat_le ((2 * root_digits d (n / 4) + 1) * (2 * root_digits d (n / 4) + 1)) n) refl)
    ]

below_power : (n : ℕ) → n < 4 ^ n
below_power zero = omega arith
below_power (suc n) = let g = below_power n in rw pow-suc (omega arith)

pub whole_root_is : (n : ℕ) → IsRootOf n (whole_root n)
unfolding whole_root
whole_root_is n = by_digits n n (below_power n)
