-- What is linear in some numbers gives for a sum of multiples of them the sum of the multiples of what it gives.
use Rattle.std.proofs.Common.{ℕ, zero, suc, ◌<◌, ◌≡◌, Bool, true, false, if◌then◌else◌, arith}
use Rattle.fx_base.specs.Fraction.{Fraction, ◌≤ᶠ◌, ◌≈ᶠ◌, ◌+ᶠ◌, ◌*ᶠ◌, ◌/ᶠ◌, whole, sum_to}
use Rattle.fx_base.proofs.Order.{le_refl_f, le_trans_f, zero_le_f, eq_refl_f, eq_trans_f, le_of_eq_f, ge_of_eq_f, eq_of_le_f, add_le_f, le_add_f, add_zero_f, mul_le_f, mul_comm_f, mul_left_f, mul_right_f, mul_add_f, add_mul_f, mul_add_right_f, add_mul_right_f, mul_zero_f}
use Rattle.fx_base.proofs.Ratios.{le_over, over_below, over_mul_le, le_over_mul, over_le, whole_le}
use Rattle.fx_base.proofs.Sums.{sum_to_le, sum_to_add, add_sum_to, sum_to_times, times_sum_to, sum_to_zero}
use Rattle.interval_system.specs.Values.{open_count, open_sum, mean}

-- ---- equal numbers

pub add_eq : {a b c d : Fraction} → a ≈ᶠ c → b ≈ᶠ d → (a +ᶠ b) ≈ᶠ (c +ᶠ d)
add_eq e f = eq_of_le_f (add_le_f (le_of_eq_f e) (le_of_eq_f f)) (add_le_f (ge_of_eq_f e) (ge_of_eq_f f))

pub mul_eq : {a b c d : Fraction} → a ≈ᶠ c → b ≈ᶠ d → (a *ᶠ b) ≈ᶠ (c *ᶠ d)
mul_eq e f = eq_of_le_f (mul_le_f (le_of_eq_f e) (le_of_eq_f f)) (mul_le_f (ge_of_eq_f e) (ge_of_eq_f f))

pub sum_to_eq : (n : ℕ) (f g : ℕ → Fraction) → ((i : ℕ) → i < n → f i ≈ᶠ g i) → sum_to n f ≈ᶠ sum_to n g
sum_to_eq n f g h = eq_of_le_f (sum_to_le n f g (λ i l. le_of_eq_f (h i l))) (sum_to_le n g f (λ i l. ge_of_eq_f (h i l)))

-- ---- what is linear

pub record IsLinear (F : (ℕ → Fraction) → Fraction) : Type 0 where
  pub nothing : F (λ i. whole 0) ≈ᶠ whole 0
  pub plus : (x y : ℕ → Fraction) → F (λ i. x i +ᶠ y i) ≈ᶠ (F x +ᶠ F y)
  pub times : (c : Fraction) (x : ℕ → Fraction) → F (λ i. c *ᶠ x i) ≈ᶠ (c *ᶠ F x)

pub linear_sum : (F : (ℕ → Fraction) → Fraction) (m : ℕ) (c : ℕ → Fraction) (v : ℕ → ℕ → Fraction) → IsLinear F
    → F (λ i. sum_to m (λ g. c g *ᶠ v g i)) ≈ᶠ sum_to m (λ g. c g *ᶠ F (v g))
unfolding sum_to
linear_sum F zero c v is = is.nothing
linear_sum F (suc m) c v is =
    eq_trans_f (is.plus (λ i. sum_to m (λ g. c g *ᶠ v g i)) (λ i. c m *ᶠ v m i)) (add_eq (linear_sum F m c v is) (is.times (c m) (v m)))

-- ---- what is sent by some weights

swapped : (k c x : Fraction) → (k *ᶠ (c *ᶠ x)) ≤ᶠ (c *ᶠ (k *ᶠ x))
swapped k c x = le_trans_f (mul_left_f k c x) (le_trans_f (mul_le_f (mul_comm_f k c) (le_refl_f x)) (mul_right_f c k x))

pub sent_is_linear : (n : ℕ) (k : ℕ → Fraction) → IsLinear (λ x. sum_to n (λ j. k j *ᶠ x j))
sent_is_linear n k = record {
  nothing = eq_of_le_f (sum_to_zero n (λ j. k j *ᶠ whole 0) (λ j l. mul_zero_f (k j))) (zero_le_f (sum_to n (λ j. k j *ᶠ whole 0)));
  plus = λ x y. eq_trans_f
      (sum_to_eq n (λ j. k j *ᶠ (x j +ᶠ y j)) (λ j. (k j *ᶠ x j) +ᶠ (k j *ᶠ y j)) (λ j l. eq_of_le_f (mul_add_f (k j) (x j) (y j)) (add_mul_f (k j) (x j) (y j))))
      (eq_of_le_f (sum_to_add n (λ j. k j *ᶠ x j) (λ j. k j *ᶠ y j)) (add_sum_to n (λ j. k j *ᶠ x j) (λ j. k j *ᶠ y j)));
  times = λ c x. eq_trans_f
      (sum_to_eq n (λ j. k j *ᶠ (c *ᶠ x j)) (λ j. c *ᶠ (k j *ᶠ x j)) (λ j l. eq_of_le_f (swapped (k j) c (x j)) (swapped c (k j) (x j))))
      (eq_of_le_f (sum_to_times n c (λ j. k j *ᶠ x j)) (times_sum_to n c (λ j. k j *ᶠ x j)));
}

-- ---- the mean

none_twice : whole 0 ≈ᶠ (whole 0 +ᶠ whole 0)
none_twice = eq_of_le_f (le_add_f (whole 0) (whole 0)) (add_zero_f (whole 0))

term_plus : (b : Bool) (x y : Fraction) → (if b then whole 0 else (x +ᶠ y)) ≈ᶠ ((if b then whole 0 else x) +ᶠ (if b then whole 0 else y))
term_plus true x y = none_twice
term_plus false x y = eq_refl_f (x +ᶠ y)

term_times : (b : Bool) (c x : Fraction) → (if b then whole 0 else (c *ᶠ x)) ≈ᶠ (c *ᶠ (if b then whole 0 else x))
term_times true c x = eq_of_le_f (zero_le_f (c *ᶠ whole 0)) (mul_zero_f c)
term_times false c x = eq_refl_f (c *ᶠ x)

term_nothing : (b : Bool) → (if b then whole 0 else whole 0) ≤ᶠ whole 0
term_nothing true = le_refl_f (whole 0)
term_nothing false = le_refl_f (whole 0)

open_is_linear : (covered : ℕ → Bool) (n : ℕ) → IsLinear (λ v. open_sum covered v n)
unfolding open_sum
open_is_linear covered n = record {
  nothing = eq_of_le_f (sum_to_zero n (λ g. if covered g then whole 0 else whole 0) (λ g l. term_nothing (covered g))) (zero_le_f (sum_to n (λ g. if covered g then whole 0 else whole 0)));
  plus = λ x y. eq_trans_f
      (sum_to_eq n (λ g. if covered g then whole 0 else (x g +ᶠ y g)) (λ g. (if covered g then whole 0 else x g) +ᶠ (if covered g then whole 0 else y g)) (λ g l. term_plus (covered g) (x g) (y g)))
      (eq_of_le_f (sum_to_add n (λ g. if covered g then whole 0 else x g) (λ g. if covered g then whole 0 else y g)) (add_sum_to n (λ g. if covered g then whole 0 else x g) (λ g. if covered g then whole 0 else y g)));
  times = λ c x. eq_trans_f
      (sum_to_eq n (λ g. if covered g then whole 0 else (c *ᶠ x g)) (λ g. c *ᶠ (if covered g then whole 0 else x g)) (λ g l. term_times (covered g) c (x g)))
      (eq_of_le_f (sum_to_times n c (λ g. if covered g then whole 0 else x g)) (times_sum_to n c (λ g. if covered g then whole 0 else x g)));
}

over_eq : (a b w : Fraction) → 0 < w.num → a ≈ᶠ b → (a /ᶠ w) ≈ᶠ (b /ᶠ w)
over_eq a b w p e = eq_of_le_f (over_le p (le_of_eq_f e) (le_refl_f w)) (over_le p (ge_of_eq_f e) (le_refl_f w))

over_nothing : (w : Fraction) → 0 < w.num → (whole 0 /ᶠ w) ≈ᶠ whole 0
over_nothing w p = eq_of_le_f (over_below (whole 0) w (whole 0) p (zero_le_f (whole 0 *ᶠ w))) (zero_le_f (whole 0 /ᶠ w))

over_plus : (a b w : Fraction) → 0 < w.num → ((a +ᶠ b) /ᶠ w) ≈ᶠ ((a /ᶠ w) +ᶠ (b /ᶠ w))
over_plus a b w p = eq_of_le_f
    (over_below (a +ᶠ b) w ((a /ᶠ w) +ᶠ (b /ᶠ w)) p (le_trans_f (add_le_f (le_over_mul a w p) (le_over_mul b w p)) (add_mul_right_f (a /ᶠ w) (b /ᶠ w) w)))
    (le_over (a +ᶠ b) w ((a /ᶠ w) +ᶠ (b /ᶠ w)) p (le_trans_f (mul_add_right_f (a /ᶠ w) (b /ᶠ w) w) (add_le_f (over_mul_le a w p) (over_mul_le b w p))))

over_times : (c a w : Fraction) → 0 < w.num → ((c *ᶠ a) /ᶠ w) ≈ᶠ (c *ᶠ (a /ᶠ w))
over_times c a w p = eq_of_le_f
    (over_below (c *ᶠ a) w (c *ᶠ (a /ᶠ w)) p (le_trans_f (mul_le_f (le_refl_f c) (le_over_mul a w p)) (mul_left_f c (a /ᶠ w) w)))
    (le_over (c *ᶠ a) w (c *ᶠ (a /ᶠ w)) p (le_trans_f (mul_right_f c (a /ᶠ w) w) (mul_le_f (le_refl_f c) (over_mul_le a w p))))

over_is_linear : (F : (ℕ → Fraction) → Fraction) (w : Fraction) → 0 < w.num → IsLinear F → IsLinear (λ v. F v /ᶠ w)
over_is_linear F w p is = record {
  nothing = eq_trans_f (over_eq (F (λ i. whole 0)) (whole 0) w p is.nothing) (over_nothing w p);
  plus = λ x y. eq_trans_f (over_eq (F (λ i. x i +ᶠ y i)) (F x +ᶠ F y) w p (is.plus x y)) (over_plus (F x) (F y) w p);
  times = λ c x. eq_trans_f (over_eq (F (λ i. c *ᶠ x i)) (c *ᶠ F x) w p (is.times c x)) (over_times c (F x) w p);
}

whole_some : (q : ℕ) → 0 < q → 0 < (whole q).num
unfolding whole
whole_some q p = p

pub mean_is_linear : (covered : ℕ → Bool) (n : ℕ) → 0 < open_count covered n → IsLinear (λ v. mean covered v n)
unfolding mean
mean_is_linear covered n some = over_is_linear (λ v. open_sum covered v n) (whole (open_count covered n)) (whole_some (open_count covered n) some) (open_is_linear covered n)
