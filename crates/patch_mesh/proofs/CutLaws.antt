-- How parts of an edge lie.
use Rattle.std.proofs.Common.{ℕ, zero, suc, ◌+◌, ◌-◌, ◌*◌, ◌/◌, ◌<◌, ◌≤◌, ◌≡◌, arith, inl, inr, zero-mul}
use Rattle.std.proofs.Math.Nat.{mul-le-mul_left, mul-le-mul_right, div-le_of_le-mul, div-mul-le_self, lt-div-mul-add, mul-div_cancel_left, zero-div}
use Rattle.std.proofs.lemmas.Nat.{le-div}
use Rattle.std.proofs.lemmas.Bool.{cases_lt}
use Rattle.patch_mesh.specs.Cuts.{parts, cut}

-- ---- how many parts there are

pub parts_few : (longest edge : ℕ) → 1 ≤ longest → 1 ≤ edge → parts longest edge ≤ edge
parts_few zero edge p q = absurd (omega arith)
parts_few (suc l) zero p q = absurd (omega arith)
parts_few (suc l) (suc e) p q = div-le_of_le-mul (suc l) (omega arith)

pub parts_some : (longest edge : ℕ) → 1 ≤ longest → 1 ≤ edge → 1 ≤ parts longest edge
parts_some longest edge p q = le-div 1 (edge + (longest - 1)) longest p (omega arith)

-- so many parts of that length reach as far as the edge
pub parts_reach : (longest edge : ℕ) → 1 ≤ longest → edge ≤ parts longest edge * longest
parts_reach longest edge p = omega (arith, lt-div-mul-add {a = edge + (longest - 1)} {b = longest} p)

-- ---- where they begin

pub cut_begin : (edge k : ℕ) → cut edge k 0 ≡ 0
cut_begin edge k = rw (zero-mul edge) (zero-div k)

pub cut_finish : (edge k : ℕ) → 1 ≤ k → cut edge k k ≡ edge
cut_finish edge k p = mul-div_cancel_left edge p

pub cut_within : (edge k i : ℕ) → i ≤ k → cut edge k i ≤ edge
cut_within edge k i h = div-le_of_le-mul k (mul-le-mul_right edge h)

pub cut_below : (edge k i j : ℕ) → 1 ≤ k → i ≤ j → cut edge k i ≤ cut edge k j
cut_below edge k i j p h = le-div (cut edge k i) (j * edge) k p (omega (arith, div-mul-le_self (i * edge) k, mul-le-mul_right edge h))

-- no part is empty
pub cut_rises : (edge k i : ℕ) → 1 ≤ k → k ≤ edge → cut edge k i < cut edge k (i + 1)
cut_rises edge k i p h =
    let l : cut edge k i + 1 ≤ cut edge k (i + 1) = le-div (cut edge k i + 1) ((i + 1) * edge) k p (omega (arith, div-mul-le_self (i * edge) k)) in
    omega arith

below_quotient : (x k y : ℕ) → x < k * y → x / k < y
below_quotient x k y h = elim (cases_lt (x / k) y) [
  | inl l ↦ l
  | inr g ↦ absurd (omega (arith, mul-le-mul_left k g, div-mul-le_self x k))
]

-- none is longer than its share of the edge, rounded up
pub cut_short : (longest edge k i : ℕ) → 1 ≤ k → edge ≤ k * longest → cut edge k (i + 1) ≤ cut edge k i + longest
cut_short longest edge k i p h =
    let near : (i + 1) * edge < k * (cut edge k i + longest + 1) = omega (arith, lt-div-mul-add {a = i * edge} {b = k} p, h) in
    let l : cut edge k (i + 1) < cut edge k i + longest + 1 = below_quotient ((i + 1) * edge) k (cut edge k i + longest + 1) near in
    omega arith

-- ---- the middle of a part

pub middle_within : (d n i : ℕ) → i < n → (2 * i + 1) * d / n ≤ 2 * d
middle_within d n i h = div-le_of_le-mul n (let g : 2 * i + 1 ≤ 2 * n = omega arith in omega (arith, mul-le-mul_left d g))

pub middle_small : (d i : ℕ) → i < 1024 → d ≤ 100000 → (2 * i + 1) * d < 4294967296
middle_small d i h g = let k : 2 * i + 1 ≤ 2047 = omega arith in omega (arith, mul-le-mul_left d k)

pub factor_few : (x y : ℕ) → 1 ≤ y → x * y ≤ 1024 → x ≤ 1024
factor_few x y p g = omega (arith, mul-le-mul_left x p)

pub factor_few' : (x y : ℕ) → 1 ≤ x → x * y ≤ 1024 → y ≤ 1024
factor_few' x y p g = omega (arith, mul-le-mul_left y p)

pub ruleset cuts = (parts_few, cut_within, cut_below)

pub ruleset edges = (parts_few)

pub ruleset middles = (middle_within, middle_small)

pub ruleset grids = (factor_few, factor_few')
