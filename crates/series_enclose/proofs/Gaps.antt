-- A sine of 0 to 45 degrees rises at half the rate of the angle at least, so strictly.
use Rattle.std.proofs.Common.{ℕ, zero, suc, ◌+◌, ◌*◌, ◌^◌, ◌≡◌, inl, inr, arith, refl}
use Rattle.std.proofs.Math.Nat.{zero-lt-suc, pow-suc, pow-zero, one-mul}
use Rattle.fx_base.specs.Fraction.{Fraction, ◌≤ᶠ◌, ◌<ᶠ◌, ◌+ᶠ◌, ◌-ᶠ◌, ◌*ᶠ◌, whole, ratio}
use Rattle.fx_base.proofs.Order.{le_refl_f, le_trans_f, le_lt_trans_f, lt_le_trans_f, le_lt_absurd_f, mul_le_f, lt_or_le_f, add_le_f, add_lt_f, mul_lt_f, le_of_lt_f, add_comm_f, add_right_f, add_left_f, add_swap_f, add_cancel_f, le_sub_add_f, sub_add_f}
use Rattle.series_enclose.specs.Series.{upper_sum, lower_sum, power_over, factorial, exponential_term, sine_term}
use Rattle.series_enclose.proofs.Terms.{sine_falls, pair_of_powers, exponential_rises, exponential_pair}
use Rattle.series_enclose.proofs.Widths.{spread_step_up, first_of_sine, sine_first}

unfoldable pub half : Fraction → Fraction
half x = x *ᶠ ratio 1 2

-- p - a + b is at most q - c + d where p + b + c is at most q + d + a and a isn't above p
pub uncut_differences : (p q a b c d : Fraction) → a ≤ᶠ p → ((p +ᶠ b) +ᶠ c) ≤ᶠ ((q +ᶠ d) +ᶠ a) → ((p -ᶠ a) +ᶠ b) ≤ᶠ ((q -ᶠ c) +ᶠ d)
uncut_differences p q a b c d uncut h =
    let left : ((((p -ᶠ a) +ᶠ b) +ᶠ c) +ᶠ a) ≤ᶠ ((p +ᶠ b) +ᶠ c) =
    le_trans_f (add_swap_f ((p -ᶠ a) +ᶠ b) c a)
    (add_le_f (le_trans_f (add_swap_f (p -ᶠ a) b a) (add_le_f (sub_add_f p a uncut) (le_refl_f b))) (le_refl_f c)) in
    let right : ((q +ᶠ d) +ᶠ a) ≤ᶠ ((((q -ᶠ c) +ᶠ d) +ᶠ c) +ᶠ a) =
    add_le_f (le_trans_f (add_le_f (le_sub_add_f q c) (le_refl_f d)) (add_swap_f (q -ᶠ c) c d)) (le_refl_f a) in
    add_cancel_f ((p -ᶠ a) +ᶠ b) ((q -ᶠ c) +ᶠ d) c
    (add_cancel_f (((p -ᶠ a) +ᶠ b) +ᶠ c) (((q -ᶠ c) +ᶠ d) +ᶠ c) a (le_trans_f left (le_trans_f h right)))

power_one : (p : ℕ) → p ^ 1 ≡ p
power_one p = rw (pow-suc p 0, pow-zero) (one-mul p)

half_power_one : (x : Fraction) → half x ≤ᶠ power_over x 1 2 (zero-lt-suc 1)
unfolding half ratio ◌*ᶠ◌ power_over
half_power_one x = record { cross = rw (power_one x.num, power_one x.den) (omega arith) }

power_one_half : (x : Fraction) → power_over x 1 2 (zero-lt-suc 1) ≤ᶠ half x
unfolding half ratio ◌*ᶠ◌ power_over
power_one_half x = record { cross = rw (power_one x.num, power_one x.den) (omega arith) }

third_power : (x : Fraction) → sine_term x 1 ≤ᶠ power_over x 3 6 (zero-lt-suc 5)
unfolding sine_term exponential_term power_over factorial
third_power x = record { cross = omega arith }

power_third : (x : Fraction) → power_over x 3 6 (zero-lt-suc 5) ≤ᶠ sine_term x 1
unfolding sine_term exponential_term power_over factorial
power_third x = record { cross = omega arith }

-- y^3/6 - x^3/6 is at most (y - x) / 2
cubes : (x y : Fraction) → x ≤ᶠ y → y ≤ᶠ whole 1 → (half x +ᶠ sine_term y 1) ≤ᶠ (half y +ᶠ sine_term x 1)
cubes x y h one =
    le_trans_f (add_le_f (half_power_one x) (third_power y))
    (le_trans_f (pair_of_powers x y 1 3 2 6 (zero-lt-suc 1) (zero-lt-suc 5) h one refl (omega arith) (omega arith))
    (add_le_f (power_one_half y) (power_third x)))

two_halves : (x : Fraction) → x ≤ᶠ (half x +ᶠ half x)
unfolding half ratio ◌*ᶠ◌ ◌+ᶠ◌
two_halves x = record { cross = omega arith }

halves_two : (x : Fraction) → (half x +ᶠ half x) ≤ᶠ x
unfolding half ratio ◌*ᶠ◌ ◌+ᶠ◌
halves_two x = record { cross = omega arith }

-- x + y/2 is at most y + x/2
half_left : (x y : Fraction) → half x ≤ᶠ half y → (x +ᶠ half y) ≤ᶠ (y +ᶠ half x)
half_left x y h =
    le_trans_f (add_le_f (two_halves x) (le_refl_f (half y)))
    (le_trans_f (add_right_f (half x) (half x) (half y))
    (le_trans_f (add_comm_f (half x) (half x +ᶠ half y))
    (add_le_f (le_trans_f (add_le_f h (le_refl_f (half y))) (halves_two y)) (le_refl_f (half x)))))

half_rises : {x y : Fraction} → x ≤ᶠ y → half x ≤ᶠ half y
unfolding half
half_rises h = mul_le_f h (le_refl_f (ratio 1 2))

-- the first pair: x + y/2 + y^3/6 is at most y + x/2 + x^3/6
first_gap : (x y : Fraction) → x ≤ᶠ y → y ≤ᶠ whole 1
    → ((sine_term x 0 +ᶠ half y) +ᶠ sine_term y 1) ≤ᶠ ((sine_term y 0 +ᶠ half x) +ᶠ sine_term x 1)
first_gap x y h one =
    let start : (sine_term x 0 +ᶠ half y) ≤ᶠ ((half x +ᶠ half y) +ᶠ half x) =
    le_trans_f (add_le_f (le_trans_f (sine_first x) (two_halves x)) (le_refl_f (half y))) (add_swap_f (half x) (half x) (half y)) in
    let end : ((half x +ᶠ half y) +ᶠ half y) ≤ᶠ (sine_term y 0 +ᶠ half x) =
    le_trans_f (add_right_f (half x) (half y) (half y))
    (le_trans_f (add_comm_f (half x) (half y +ᶠ half y)) (add_le_f (le_trans_f (halves_two y) (first_of_sine y)) (le_refl_f (half x)))) in
    le_trans_f (add_le_f start (le_refl_f (sine_term y 1)))
    (le_trans_f (add_right_f (half x +ᶠ half y) (half x) (sine_term y 1))
    (le_trans_f (add_le_f (le_refl_f (half x +ᶠ half y)) (cubes x y h one))
    (le_trans_f (add_left_f (half x +ᶠ half y) (half y) (sine_term x 1))
    (add_le_f end (le_refl_f (sine_term x 1))))))

even_pair : (x y : Fraction) → x ≤ᶠ y → y ≤ᶠ whole 1 → (n : ℕ)
    → (sine_term x (2 * n + 2) +ᶠ sine_term y (2 * suc n + 1)) ≤ᶠ (sine_term y (2 * n + 2) +ᶠ sine_term x (2 * suc n + 1))
unfolding sine_term
even_pair x y h one n = exponential_pair x y (2 * (2 * n + 2) + 1) (2 * (2 * suc n + 1) + 1) h one (omega arith) (omega arith)

sine_rises : (x y : Fraction) (k : ℕ) → x ≤ᶠ y → sine_term x k ≤ᶠ sine_term y k
unfolding sine_term
sine_rises x y k h = exponential_rises (2 * k + 1) h

-- the sums rise at least half as fast as x
pub sine_lower_gap : (x y : Fraction) → x ≤ᶠ y → y ≤ᶠ whole 1 → (n : ℕ) → (lower_sum (sine_term x) n +ᶠ half y) ≤ᶠ (lower_sum (sine_term y) n +ᶠ half x)
unfolding upper_sum lower_sum
sine_lower_gap x y h one zero =
    uncut_differences (sine_term x 0) (sine_term y 0) (sine_term x 1) (half y) (sine_term y 1) (half x)
    ((sine_falls x (le_trans_f h one)).falls 0 1 refl) (first_gap x y h one)
sine_lower_gap x y h one (suc n) =
    spread_step_up (lower_sum (sine_term x) n) (lower_sum (sine_term y) n)
    (sine_term x (2 * n + 2)) (sine_term x (2 * suc n + 1)) (sine_term y (2 * n + 2)) (sine_term y (2 * suc n + 1)) (half y) (half x)
    ((sine_falls x (le_trans_f h one)).falls (2 * n + 2) (2 * suc n + 1) (omega arith)) (sine_lower_gap x y h one n) (even_pair x y h one n)

pub sine_upper_gap : (x y : Fraction) → x ≤ᶠ y → y ≤ᶠ whole 1 → (n : ℕ) → (upper_sum (sine_term x) n +ᶠ half y) ≤ᶠ (upper_sum (sine_term y) n +ᶠ half x)
unfolding upper_sum lower_sum
sine_upper_gap x y h one zero =
    le_trans_f (add_le_f (sine_first x) (le_refl_f (half y))) (le_trans_f (half_left x y (half_rises h)) (add_le_f (first_of_sine y) (le_refl_f (half x))))
sine_upper_gap x y h one (suc n) =
    le_trans_f (add_swap_f (lower_sum (sine_term x) n) (sine_term x (2 * n + 2)) (half y))
    (le_trans_f (add_le_f (sine_lower_gap x y h one n) (sine_rises x y (2 * n + 2) h))
    (add_swap_f (lower_sum (sine_term y) n) (half x) (sine_term y (2 * n + 2))))

half_strict : {x y : Fraction} → x <ᶠ y → half x <ᶠ half y
unfolding half ratio
half_strict h = mul_lt_f (zero-lt-suc 0) h (le_refl_f (ratio 1 2))

gap_strict : (u v x y : Fraction) → x <ᶠ y → (u +ᶠ half y) ≤ᶠ (v +ᶠ half x) → u <ᶠ v
gap_strict u v x y h g = elim (lt_or_le_f u v) [
  | inl l ↦ l
  | inr k ↦ absurd (le_lt_absurd_f g (le_lt_trans_f (add_comm_f v (half x)) (lt_le_trans_f (add_lt_f (half_strict h) k) (add_comm_f (half y) u))))
]

pub sine_upper_strict : (x y : Fraction) → x <ᶠ y → y ≤ᶠ whole 1 → (n : ℕ) → upper_sum (sine_term x) n <ᶠ upper_sum (sine_term y) n
sine_upper_strict x y h one n = gap_strict (upper_sum (sine_term x) n) (upper_sum (sine_term y) n) x y h (sine_upper_gap x y (le_of_lt_f h) one n)

pub sine_lower_strict : (x y : Fraction) → x <ᶠ y → y ≤ᶠ whole 1 → (n : ℕ) → lower_sum (sine_term x) n <ᶠ lower_sum (sine_term y) n
sine_lower_strict x y h one n = gap_strict (lower_sum (sine_term x) n) (lower_sum (sine_term y) n) x y h (sine_lower_gap x y (le_of_lt_f h) one n)
