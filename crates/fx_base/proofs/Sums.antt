-- Sums of fractions, and ticks.
use Rattle.std.proofs.Common.{ℕ, zero, suc, ◌+◌, ◌-◌, ◌*◌, ◌/◌, ◌<◌, ◌≤◌, ◌≡◌, inl, inr, arith}
use Rattle.std.proofs.lemmas.Bool.{cases_lt}
use Rattle.fx_base.specs.Fraction.{Fraction, ◌≤ᶠ◌, ◌<ᶠ◌, whole, sum_to, ◌+ᶠ◌, ◌-ᶠ◌, ◌*ᶠ◌}
use Rattle.fx_base.specs.Units.{ticks}
use Rattle.fx_base.proofs.Order.{le_refl_f, le_trans_f, add_le_f, add_zero_f, le_add_f, le_add_left_f, le_one_mul_f, add_pairs_f, zero_le_f, mul_le_f, mul_zero_f, mul_add_f, add_mul_f, add_mul_right_f}
use Rattle.fx_base.proofs.Ratios.{whole_le, whole_join}

-- ---- f 0 + .. + f (n - 1)

pub sum_to_le : (n : ℕ) (f g : ℕ → Fraction) → ((i : ℕ) → i < n → f i ≤ᶠ g i) → sum_to n f ≤ᶠ sum_to n g
unfolding sum_to
sum_to_le zero f g h = le_refl_f (whole 0)
sum_to_le (suc n) f g h = add_le_f (sum_to_le n f g (λ i p. h i (omega arith))) (h n (omega arith))

pub sum_to_add : (n : ℕ) (f g : ℕ → Fraction) → sum_to n (λ i. f i +ᶠ g i) ≤ᶠ (sum_to n f +ᶠ sum_to n g)
unfolding sum_to
sum_to_add zero f g = le_add_f (whole 0) (whole 0)
sum_to_add (suc n) f g =
    le_trans_f (add_le_f (sum_to_add n f g) (le_refl_f (f n +ᶠ g n))) (add_pairs_f (sum_to n f) (sum_to n g) (f n) (g n))

pub add_sum_to : (n : ℕ) (f g : ℕ → Fraction) → (sum_to n f +ᶠ sum_to n g) ≤ᶠ sum_to n (λ i. f i +ᶠ g i)
unfolding sum_to
add_sum_to zero f g = add_zero_f (whole 0)
add_sum_to (suc n) f g =
    le_trans_f (add_pairs_f (sum_to n f) (f n) (sum_to n g) (g n)) (add_le_f (add_sum_to n f g) (le_refl_f (f n +ᶠ g n)))

pub sum_to_times : (n : ℕ) (c : Fraction) (f : ℕ → Fraction) → sum_to n (λ i. c *ᶠ f i) ≤ᶠ (c *ᶠ sum_to n f)
unfolding sum_to
sum_to_times zero c f = zero_le_f (c *ᶠ whole 0)
sum_to_times (suc n) c f =
    le_trans_f (add_le_f (sum_to_times n c f) (le_refl_f (c *ᶠ f n))) (add_mul_f c (sum_to n f) (f n))

pub times_sum_to : (n : ℕ) (c : Fraction) (f : ℕ → Fraction) → (c *ᶠ sum_to n f) ≤ᶠ sum_to n (λ i. c *ᶠ f i)
unfolding sum_to
times_sum_to zero c f = mul_zero_f c
times_sum_to (suc n) c f =
    le_trans_f (mul_add_f c (sum_to n f) (f n)) (add_le_f (times_sum_to n c f) (le_refl_f (c *ᶠ f n)))

-- n numbers that are each at most c
pub sum_to_most : (n : ℕ) (c : Fraction) (f : ℕ → Fraction) → ((i : ℕ) → i < n → f i ≤ᶠ c) → sum_to n f ≤ᶠ (whole n *ᶠ c)
unfolding sum_to
sum_to_most zero c f h = zero_le_f (whole 0 *ᶠ c)
sum_to_most (suc n) c f h =
    le_trans_f (add_le_f (sum_to_most n c f (λ i p. h i (omega arith))) (le_trans_f (h n (omega arith)) (le_one_mul_f c)))
    (le_trans_f (add_mul_right_f (whole n) (whole 1) c) (mul_le_f (le_trans_f (whole_join n 1) (whole_le (n + 1) (suc n) (omega arith))) (le_refl_f c)))

pub sum_to_zero : (n : ℕ) (f : ℕ → Fraction) → ((i : ℕ) → i < n → f i ≤ᶠ whole 0) → sum_to n f ≤ᶠ whole 0
unfolding sum_to
sum_to_zero zero f h = le_refl_f (whole 0)
sum_to_zero (suc n) f h = le_trans_f (add_le_f (sum_to_zero n f (λ i p. h i (omega arith))) (h n (omega arith))) (add_zero_f (whole 0))

-- one term is at most the sum
pub term_le_sum : (n i : ℕ) (f : ℕ → Fraction) → i < n → f i ≤ᶠ sum_to n f
unfolding sum_to
term_le_sum zero i f p = absurd (omega arith)
term_le_sum (suc n) i f p = elim (cases_lt i n) [
  | inl l ↦ le_trans_f (term_le_sum n i f l) (le_add_f (sum_to n f) (f n))
  | inr g ↦ let e : i ≡ n = omega arith in rw e (le_add_left_f (sum_to n f) (f n))
]

-- ---- ticks

pub ticks_le : (s t : ℕ) → s ≤ t → ticks s ≤ᶠ ticks t
unfolding ticks
ticks_le s t h = record { cross = omega arith }

pub ticks_back : (s t : ℕ) → ticks s ≤ᶠ ticks t → s ≤ t
unfolding ticks
ticks_back s t h = let g = h.cross in omega arith

pub ticks_positive : (t : ℕ) → 0 < t → 0 < (ticks t).num
unfolding ticks
ticks_positive t p = p

pub no_ticks : (ticks 0 ≤ᶠ whole 0) × (whole 0 ≤ᶠ ticks 0)
unfolding ticks whole
no_ticks = (record { cross = omega arith }, record { cross = omega arith })

pub some_ticks : (t : ℕ) → 0 < t → whole 0 <ᶠ ticks t
unfolding whole ticks
some_ticks t p = record { cross = omega arith }

pub ticks_split : (s t : ℕ) → ticks (s + t) ≤ᶠ (ticks s +ᶠ ticks t)
unfolding ticks ◌+ᶠ◌
ticks_split s t = record { cross = omega arith }

pub ticks_join : (s t : ℕ) → (ticks s +ᶠ ticks t) ≤ᶠ ticks (s + t)
unfolding ticks ◌+ᶠ◌
ticks_join s t = record { cross = omega arith }

-- a difference of ticks, which stops at 0 in both forms
pub ticks_sub_split : (s t : ℕ) → ticks (s - t) ≤ᶠ (ticks s -ᶠ ticks t)
unfolding ticks ◌-ᶠ◌
ticks_sub_split s t = record { cross = omega arith }

pub ticks_sub_join : (s t : ℕ) → (ticks s -ᶠ ticks t) ≤ᶠ ticks (s - t)
unfolding ticks ◌-ᶠ◌
ticks_sub_join s t = record { cross = omega arith }

pub ticks_whole : (n : ℕ) → ticks (n * 68719476736) ≤ᶠ whole n
unfolding ticks whole
ticks_whole n = record { cross = omega arith }

pub whole_ticks : (n : ℕ) → whole n ≤ᶠ ticks (n * 68719476736)
unfolding ticks whole
whole_ticks n = record { cross = omega arith }

-- a tick or a fraction against a number of ticks, in whole numbers
pub ticks_below : (t : ℕ) (x : Fraction) → t * x.den ≤ x.num * 68719476736 → ticks t ≤ᶠ x
unfolding ticks
ticks_below t x h = record { cross = h }

pub ticks_below_back : (t : ℕ) {x : Fraction} → ticks t ≤ᶠ x → t * x.den ≤ x.num * 68719476736
unfolding ticks
ticks_below_back t h = h.cross

pub ticks_above : (t : ℕ) (x : Fraction) → x.num * 68719476736 ≤ t * x.den → x ≤ᶠ ticks t
unfolding ticks
ticks_above t x h = record { cross = h }

pub ticks_above_back : (t : ℕ) {x : Fraction} → x ≤ᶠ ticks t → x.num * 68719476736 ≤ t * x.den
unfolding ticks
ticks_above_back t h = h.cross

-- a product of ticks rounded down, and one rounded up
pub ticks_times_low : (s t : ℕ) → ticks (s * t / 68719476736) ≤ᶠ (ticks s *ᶠ ticks t)
unfolding ticks ◌*ᶠ◌
ticks_times_low s t = record { cross = omega arith }

pub ticks_times_high : (s t : ℕ) → (ticks s *ᶠ ticks t) ≤ᶠ ticks ((s * t + 68719476735) / 68719476736)
unfolding ticks ◌*ᶠ◌
ticks_times_high s t = record { cross = omega arith }
