-- The enclosures of a square root.
use Rattle.std.proofs.Common.{ℕ, zero, suc, ◌+◌, ◌*◌, ◌^◌, ◌<◌, ◌≤◌, ◌≡◌, arith, refl, subst}
use Rattle.std.proofs.Math.Nat.{mul-le-mul_left, mul-lt-mul_of_pos_left, mul-pos, pow-suc, one-le-pow, zero-lt-suc, le_of_mul-le-mul_left}
use Rattle.fx_base.specs.Fraction.{◌≤ᶠ◌, ◌<ᶠ◌, ◌≈ᶠ◌, ◌+ᶠ◌, ◌*ᶠ◌, whole, half_power}
use Rattle.fx_base.specs.Units.{ticks}
use Rattle.fx_base.specs.Search.{IsRootOf, whole_root}
use Rattle.fx_base.specs.Root.{halved, root}
use Rattle.fx_base.specs.Nesting.{IsNested}
use Rattle.fx_base.proofs.Order.{le_trans_f}
use Rattle.fx_base.proofs.SearchLaws.{whole_root_is, square_lt, square_le}

pub four_power : (n : ℕ) → 4 ^ n ≡ 2 ^ n * 2 ^ n
four_power zero = refl
four_power (suc n) = let e = four_power n in rw (pow-suc 4 n, pow-suc 2 n) (omega (arith, e))

pub two_power_positive : (n : ℕ) → 0 < 2 ^ n
two_power_positive n = one-le-pow n 2 (zero-lt-suc 1)

-- ---- k / 2^n

pub halved_le : (n j k : ℕ) → j ≤ k → halved n j ≤ᶠ halved n k
unfolding halved
halved_le n j k h = record { cross = let g = mul-le-mul_left (2 ^ n) h in omega arith }

pub halved_back : (n j k : ℕ) → halved n j ≤ᶠ halved n k → j ≤ k
unfolding halved
halved_back n j k h = let g = h.cross in le_of_mul-le-mul_left {k = 2 ^ n} (omega arith) (two_power_positive n)

-- k / 2^n is 2k / 2^(n+1)
pub halved_twice : (n k : ℕ) → halved n k ≤ᶠ halved (suc n) (2 * k)
unfolding halved
halved_twice n k = record { cross = rw pow-suc (omega arith) }

pub twice_halved : (n k : ℕ) → halved (suc n) (2 * k) ≤ᶠ halved n k
unfolding halved
twice_halved n k = record { cross = rw pow-suc (omega arith) }

-- ---- nesting and width

-- k the whole root of r P, and h that of 4 r P
roots_nest : (m k h : ℕ) → IsRootOf m k → IsRootOf (4 * m) h → (2 * k ≤ h) × (h + 1 ≤ 2 * (k + 1))
roots_nest m k h g i =
    let gs = g.square in let gn = g.next in let is = i.square in let nx = i.next in
    let low : 2 * k < h + 1 = square_lt (2 * k) (h + 1) (4 * m) (omega (arith, mul-le-mul_left 4 gs)) nx in
    let high : h < 2 * (k + 1) = square_lt h (2 * (k + 1)) (4 * m) is (omega (arith, mul-le-mul_left 4 gn)) in
    (omega arith, omega arith)

next_root : (n r : ℕ) → IsRootOf (4 * (r * 4 ^ n)) (whole_root (r * 4 ^ suc n))
next_root n r = let e : r * 4 ^ suc n ≡ 4 * (r * 4 ^ n) = rw pow-suc (omega arith) in
    let P : ℕ → Type 0 = λ m. IsRootOf m (whole_root (r * 4 ^ suc n)) in
    subst P e (whole_root_is (r * 4 ^ suc n))

root_at : (n r : ℕ) → IsRootOf (r * (2 ^ n * 2 ^ n)) (whole_root (r * 4 ^ n))
root_at n r =
    let P : ℕ → Type 0 = λ m. IsRootOf (r * m) (whole_root (r * 4 ^ n)) in
    subst P (four_power n) (whole_root_is (r * 4 ^ n))

within_low : (n k h : ℕ) → 2 * k ≤ h → halved n k ≤ᶠ halved (suc n) h
within_low n k h g = le_trans_f (halved_twice n k) (halved_le (suc n) (2 * k) h g)

within_high : (n k h : ℕ) → h + 1 ≤ 2 * (k + 1) → halved (suc n) (h + 1) ≤ᶠ halved n (k + 1)
within_high n k h g = le_trans_f (halved_le (suc n) (h + 1) (2 * (k + 1)) g) (twice_halved n (k + 1))

-- the enclosures of a root nest
pub root_nested : (r : ℕ) → IsNested (λ n. root n r)
unfolding root
root_nested r = record {
  nests = λ n. let both = roots_nest (r * 4 ^ n) (whole_root (r * 4 ^ n)) (whole_root (r * 4 ^ suc n)) (whole_root_is (r * 4 ^ n)) (next_root n r) in
      record {
        lower = within_low n (whole_root (r * 4 ^ n)) (whole_root (r * 4 ^ suc n)) (both.0);
        upper = within_high n (whole_root (r * 4 ^ n)) (whole_root (r * 4 ^ suc n)) (both.1);
      };
  order = λ n. halved_le n (whole_root (r * 4 ^ n)) (whole_root (r * 4 ^ n) + 1) (omega arith);
}

pub root_narrow : (n r : ℕ) → (root n r).hi ≈ᶠ ((root n r).lo +ᶠ half_power n)
unfolding root halved half_power ◌+ᶠ◌
root_narrow n r = record { cross = omega arith }

-- ---- against squares

-- the lower end squared is at most r, and the upper end squared is above it
pub root_low_square : (n r : ℕ) → ((root n r).lo *ᶠ (root n r).lo) ≤ᶠ whole r
unfolding root halved whole ◌*ᶠ◌
root_low_square n r = let g = (root_at n r).square in record { cross = omega arith }

pub root_high_square : (n r : ℕ) → whole r <ᶠ ((root n r).hi *ᶠ (root n r).hi)
unfolding root halved whole ◌*ᶠ◌
root_high_square n r = let g = (root_at n r).next in record { cross = omega arith }

-- ---- against ticks

-- m = k 2^n against M = K 2^36, where k is a tick whose square is at most r and K the whole root of r 4^n
below_root : (Q P r k K : ℕ) → 0 < Q → k * k ≤ r * (Q * Q) → r * (P * P) < (K + 1) * (K + 1) → k * P ≤ (K + 1) * Q
below_root Q P r k K p g h =
    let q : 0 < Q * Q = mul-pos p p in
    let l : k * P < (K + 1) * Q = square_lt (k * P) ((K + 1) * Q) (r * (Q * Q) * (P * P))
    (omega (arith, mul-le-mul_left (P * P) g)) (omega (arith, mul-lt-mul_of_pos_left h q)) in
    omega arith

above_root : (Q P r h K : ℕ) → r * (Q * Q) ≤ h * h → K * K ≤ r * (P * P) → K * Q ≤ h * P
above_root Q P r h K g i =
    square_le (K * Q) (h * P) (omega (arith, mul-le-mul_left (P * P) g, mul-le-mul_left (Q * Q) i))

-- two ticks, the square of the first at most r and that of the second at least r, meet every enclosure of the root
pub root_above_ticks : (r k n : ℕ) → k * k ≤ r * 4 ^ 36 → ticks k ≤ᶠ (root n r).hi
unfolding root halved ticks
root_above_ticks r k n h =
    record { cross = below_root 68719476736 (2 ^ n) r k (whole_root (r * 4 ^ n)) (zero-lt-suc 68719476735) h (root_at n r).next }

pub root_below_ticks : (r h n : ℕ) → r * 4 ^ 36 ≤ h * h → (root n r).lo ≤ᶠ ticks h
unfolding root halved ticks
root_below_ticks r h n g =
    record { cross = above_root 68719476736 (2 ^ n) r h (whole_root (r * 4 ^ n)) g (root_at n r).square }
