-- Bounds on a ratio s : r, said by products: r * o < s * u says that it is above o : u, and s * u < r * o that it is below.
use Rattle.std.proofs.Common.{ℕ, zero, suc, ◌*◌, ◌<◌, ◌≤◌, arith}
use Rattle.std.proofs.Math.Nat.{mul-le-mul_left, mul-lt-mul_of_pos_left, lt_of_mul-lt-mul_left}
use Rattle.std.proofs.lemmas.Nat.{mul-lt}

-- a factor of a product above something isn't 0
pub second_positive : (m a b : ℕ) → m < a * b → 0 < b
second_positive m a zero l = omega arith
second_positive m a (suc b) l = omega arith

pub first_positive : (m a b : ℕ) → m < a * b → 0 < a
first_positive m zero b l = omega arith
first_positive m (suc a) b l = omega arith

-- a ratio above the greater bound is above the lesser
pub above_less : (r s o u o' u' : ℕ) → o * u' ≤ o' * u → r * o' < s * u' → 0 < u → r * o < s * u
above_less r s o u o' u' le l p = lt_of_mul-lt-mul_left u' (omega (arith, mul-le-mul_left r le, mul-lt-mul_of_pos_left l p))

-- a ratio below the lesser bound is below the greater
pub below_more : (r s o u o' u' : ℕ) → o * u' ≤ o' * u → s * u < r * o → 0 < o' → s * u' < r * o'
below_more r s o u o' u' le l p = lt_of_mul-lt-mul_left o (omega (arith, mul-le-mul_left s le, mul-lt-mul_of_pos_left l p))

-- a bound that a ratio is above is less than one that it is below
pub between : (r s o u o' u' : ℕ) → r * o < s * u → s * u' < r * o' → o * u' < o' * u
between r s o u o' u' a b = lt_of_mul-lt-mul_left (r * s) (omega (arith, mul-lt (r * o) (s * u') (s * u) (r * o') a b))
