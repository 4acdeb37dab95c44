-- How wide the enclosures are.
use Rattle.std.proofs.Common.{ℕ, zero, suc, ◌+◌, ◌-◌, ◌*◌, ◌^◌, ◌<◌, ◌≤◌, ◌≡◌, arith, refl, ap, subst, lit≤}
use Rattle.std.proofs.Math.Nat.{mul-le-mul, mul-le-mul_left, mul-pos, pow-suc, pow-zero, one-mul, pow-le-pow_left, one-le-pow, zero-lt-suc}
use Rattle.fx_base.specs.Fraction.{Fraction, ◌≤ᶠ◌, ◌+ᶠ◌, ◌-ᶠ◌, ◌*ᶠ◌, whole, ratio}
use Rattle.fx_base.proofs.Order.{le_refl_f, le_trans_f, add_le_f, add_comm_f, add_right_f, add_left_f, add_swap_f, add_cancel_f, le_add_f, le_add_left_f, sub_mono_f, sub_le_f, le_sub_f, le_sub_add_f, sub_add_f, mul_le_f, mul_add_f, mul_add_right_f}
use Rattle.fx_base.proofs.Ratios.{le_ratio}
use Rattle.series_enclose.specs.Series.{upper_sum, lower_sum, power_over, arctan_term, one_fifth, one_of_239, factorial, factorial_positive, exponential_term, sine_term, cosine_term, pi, radians, sine_of, cosine_of, sine, cosine}
use Rattle.series_enclose.specs.Laws.{narrowing}
use Rattle.series_enclose.proofs.Alternating.{term_le_upper, upper_le_lower, pair_step, pair_step_down}
use Rattle.series_enclose.proofs.Terms.{pow_two_more, at_most_one, sine_falls, cosine_falls, exponential_pair, exponential_rises, over_one, over_left, over_right, to_left, to_right, from_left, from_right}
use Rattle.series_enclose.proofs.Arcs.{arc_order, arc_high_one, arc_low_one}

power_of_one : (m : ℕ) → 1 ^ m ≡ 1
power_of_one zero = pow-zero 1
power_of_one (suc m) = rw (pow-suc, power_of_one m) refl

-- ---- pi

five_power : (j : ℕ) → 5 ^ suc (2 * j) ≡ 25 ^ j * 5
five_power zero = refl
five_power (suc j) = let e : suc (2 * suc j) ≡ suc (2 * j) + 2 = omega arith in
    rw (pow_two_more 5 (suc (2 * j)) (suc (2 * suc j)) e, five_power j, pow-suc) (omega arith)

power_positive : (b j : ℕ) → 0 < b → 0 < b ^ j
power_positive b j p = one-le-pow j b p

-- 16 / (P m) and 4 / (R m) with P = 5 K at most R
two_terms_core : (P R m K : ℕ) → P ≡ K * 5 → P ≤ R → 0 < m → (16 * (R * m) + 4 * (P * m)) * K ≤ 4 * ((P * m) * (R * m))
two_terms_core P R m K e h p =
    let f : P * (4 * R * m) ≡ (K * 5) * (4 * R * m) = ap (λ (z : ℕ). z * (4 * R * m)) e in
    omega (arith, f, mul-le-mul_left (4 * m * K) h, mul-le-mul_left (4 * P * (R * m)) p)

two_terms : (j : ℕ) → ((whole 16 *ᶠ arctan_term one_fifth j) +ᶠ (whole 4 *ᶠ arctan_term one_of_239 j)) ≤ᶠ ratio 4 (25 ^ j)
unfolding arctan_term power_over one_fifth one_of_239 ratio whole ◌+ᶠ◌ ◌*ᶠ◌
two_terms j =
    le_ratio 4 (25 ^ j) ((whole 16 *ᶠ arctan_term one_fifth j) +ᶠ (whole 4 *ᶠ arctan_term one_of_239 j)) (power_positive 25 j (zero-lt-suc 24))
    (rw (power_of_one (suc (2 * j)))
    (let core = two_terms_core (5 ^ suc (2 * j)) (239 ^ suc (2 * j)) (suc (2 * j)) (25 ^ j) (five_power j) (pow-le-pow_left (lit≤ tt) (suc (2 * j))) (zero-lt-suc (2 * j)) in
    omega (arith, core)))

-- 16 a - 4 b, with a from l to l + s and b from k to k + t
machin_width : (u l s v k t : Fraction) → u ≤ᶠ (l +ᶠ s) → v ≤ᶠ (k +ᶠ t) → (u -ᶠ k) ≤ᶠ ((l -ᶠ v) +ᶠ (s +ᶠ t))
machin_width u l s v k t g h =
    let one : (l +ᶠ s) ≤ᶠ (((l -ᶠ v) +ᶠ (k +ᶠ t)) +ᶠ s) = add_le_f (le_trans_f (le_sub_add_f l v) (add_le_f (le_refl_f (l -ᶠ v)) h)) (le_refl_f s) in
    sub_le_f u k (le_trans_f g (le_trans_f one (sum_of_four (l -ᶠ v) k t s)))
  where
    sum_of_four : (a k t s : Fraction) → ((a +ᶠ (k +ᶠ t)) +ᶠ s) ≤ᶠ ((a +ᶠ (s +ᶠ t)) +ᶠ k)
    sum_of_four a k t s =
        le_trans_f (add_right_f a (k +ᶠ t) s)
        (le_trans_f (add_le_f (le_refl_f a) (le_trans_f (add_right_f k t s) (le_trans_f (add_comm_f k (t +ᶠ s)) (add_le_f (add_comm_f t s) (le_refl_f k)))))
        (add_left_f a (s +ᶠ t) k))

scaled_width : (c : ℕ) (u l t : Fraction) → u ≤ᶠ (l +ᶠ t) → (whole c *ᶠ u) ≤ᶠ ((whole c *ᶠ l) +ᶠ (whole c *ᶠ t))
scaled_width c u l t h = le_trans_f (mul_le_f (le_refl_f (whole c)) h) (mul_add_f (whole c) l t)

-- the enclosure of pi is at most 4 / 25^(2n + 1) wide
pub pi_width : (n : ℕ) → (pi n).hi ≤ᶠ ((pi n).lo +ᶠ ratio 4 (25 ^ (2 * n + 1)))
unfolding pi
pi_width n =
    let t = arctan_term one_fifth in
    let s = arctan_term one_of_239 in
    le_trans_f
    (machin_width (whole 16 *ᶠ upper_sum t n) (whole 16 *ᶠ lower_sum t n) (whole 16 *ᶠ t (2 * n + 1))
    (whole 4 *ᶠ upper_sum s n) (whole 4 *ᶠ lower_sum s n) (whole 4 *ᶠ s (2 * n + 1))
    (scaled_width 16 (upper_sum t n) (lower_sum t n) (t (2 * n + 1)) (upper_le_lower t n))
    (scaled_width 4 (upper_sum s n) (lower_sum s n) (s (2 * n + 1)) (upper_le_lower s n)))
    (add_le_f (le_refl_f ((whole 16 *ᶠ lower_sum t n) -ᶠ (whole 4 *ᶠ upper_sum s n))) (two_terms (2 * n + 1)))

-- ---- an arc

quarter : (K : ℕ) → 0 < K → ((whole 45 *ᶠ ratio 4 K) *ᶠ ratio 1 180) ≤ᶠ ratio 1 K
unfolding whole ratio ◌*ᶠ◌
quarter zero p = absurd (omega arith)
quarter (suc K) p = record { cross = omega arith }

arc_rest : (g : Fraction) (j : ℕ) → g ≤ᶠ whole 45 → ((g *ᶠ ratio 4 (25 ^ j)) *ᶠ ratio 1 180) ≤ᶠ ratio 1 (25 ^ j)
arc_rest g j h = le_trans_f (mul_le_f (mul_le_f h (le_refl_f (ratio 4 (25 ^ j)))) (le_refl_f (ratio 1 180))) (quarter (25 ^ j) (power_positive 25 j (zero-lt-suc 24)))

pub arc_width : (n : ℕ) (g : Fraction) → g ≤ᶠ whole 45 → (radians (pi n) g).hi ≤ᶠ ((radians (pi n) g).lo +ᶠ ratio 1 (25 ^ (2 * n + 1)))
unfolding radians
arc_width n g h =
    let w = ratio 4 (25 ^ (2 * n + 1)) in
    le_trans_f (mul_le_f (le_trans_f (mul_le_f (le_refl_f g) (pi_width n)) (mul_add_f g (pi n).lo w)) (le_refl_f (ratio 1 180)))
    (le_trans_f (mul_add_right_f (g *ᶠ (pi n).lo) (g *ᶠ w) (ratio 1 180))
    (add_le_f (le_refl_f ((g *ᶠ (pi n).lo) *ᶠ ratio 1 180)) (arc_rest g (2 * n + 1) h)))

-- ---- the sums change no faster than x

-- (p - a) + x is at most (p + x) - a where a isn't above p, and (q + y) - c at most (q - c) + y always
sub_out_of_sum : (p a x : Fraction) → a ≤ᶠ p → ((p -ᶠ a) +ᶠ x) ≤ᶠ ((p +ᶠ x) -ᶠ a)
sub_out_of_sum p a x h = le_sub_f (p +ᶠ x) a (le_trans_f (add_swap_f (p -ᶠ a) x a) (add_le_f (sub_add_f p a h) (le_refl_f x)))

sum_out_of_sub : (q c y : Fraction) → ((q +ᶠ y) -ᶠ c) ≤ᶠ ((q -ᶠ c) +ᶠ y)
sum_out_of_sub q c y = sub_le_f (q +ᶠ y) c (le_trans_f (add_le_f (le_sub_add_f q c) (le_refl_f y)) (add_swap_f (q -ᶠ c) c y))

-- p - a + b + x is at most q - c + d + y
pub spread_step_down : (p q a b c d x y : Fraction) → a ≤ᶠ p → (p +ᶠ x) ≤ᶠ (q +ᶠ y) → (c +ᶠ b) ≤ᶠ (a +ᶠ d)
    → (((p -ᶠ a) +ᶠ b) +ᶠ x) ≤ᶠ (((q -ᶠ c) +ᶠ d) +ᶠ y)
spread_step_down p q a b c d x y uncut g h =
    let left : (((p -ᶠ a) +ᶠ b) +ᶠ x) ≤ᶠ (((p +ᶠ x) -ᶠ a) +ᶠ b) =
    le_trans_f (add_swap_f (p -ᶠ a) b x) (add_le_f (sub_out_of_sum p a x uncut) (le_refl_f b)) in
    let right : (((q +ᶠ y) -ᶠ c) +ᶠ d) ≤ᶠ (((q -ᶠ c) +ᶠ d) +ᶠ y) =
    le_trans_f (add_le_f (sum_out_of_sub q c y) (le_refl_f d)) (add_swap_f (q -ᶠ c) y d) in
    le_trans_f left (le_trans_f (pair_step_down (p +ᶠ x) (q +ᶠ y) a b c d (le_trans_f uncut (le_add_f p x)) g h) right)

-- p + a - b + x is at most q + c - d + y
pub spread_step_up : (p q a b c d x y : Fraction) → b ≤ᶠ a → (p +ᶠ x) ≤ᶠ (q +ᶠ y) → (a +ᶠ d) ≤ᶠ (c +ᶠ b)
    → (((p +ᶠ a) -ᶠ b) +ᶠ x) ≤ᶠ (((q +ᶠ c) -ᶠ d) +ᶠ y)
spread_step_up p q a b c d x y uncut g h =
    let left : (((p +ᶠ a) -ᶠ b) +ᶠ x) ≤ᶠ (((p +ᶠ x) +ᶠ a) -ᶠ b) =
    le_trans_f (sub_out_of_sum (p +ᶠ a) b x (le_trans_f uncut (le_add_left_f p a))) (sub_mono_f (add_swap_f p a x) (le_refl_f b)) in
    let right : (((q +ᶠ y) +ᶠ c) -ᶠ d) ≤ᶠ (((q +ᶠ c) -ᶠ d) +ᶠ y) =
    le_trans_f (sub_mono_f (add_swap_f q y c) (le_refl_f d)) (sum_out_of_sub (q +ᶠ c) d y) in
    le_trans_f left (le_trans_f (pair_step (p +ᶠ x) (q +ᶠ y) a b c d g h) right)

-- the first terms: x itself, and 1
power_one : (p : ℕ) → p ^ 1 ≡ p
power_one p = rw (pow-suc p 0, pow-zero) (one-mul p)

pub sine_first : (x : Fraction) → sine_term x 0 ≤ᶠ x
unfolding sine_term exponential_term power_over factorial
sine_first x = record { cross = rw (power_one x.num, power_one x.den) (omega arith) }

pub first_of_sine : (x : Fraction) → x ≤ᶠ sine_term x 0
unfolding sine_term exponential_term power_over factorial
first_of_sine x = record { cross = rw (power_one x.num, power_one x.den) (omega arith) }

first_spreads : (x y : Fraction) → (sine_term y 0 +ᶠ x) ≤ᶠ (sine_term x 0 +ᶠ y)
first_spreads x y = le_trans_f (add_le_f (sine_first y) (first_of_sine x)) (add_comm_f y (sine_term x 0))

zeroth : (x y : Fraction) → cosine_term x 0 ≤ᶠ cosine_term y 0
unfolding cosine_term exponential_term power_over
zeroth x y = record { cross = rw (pow-zero y.num, pow-zero x.num, pow-zero x.den, pow-zero y.den) (omega arith) }

sine_later_pair : (x y : Fraction) → x ≤ᶠ y → y ≤ᶠ whole 1 → (n : ℕ)
    → (sine_term x (2 * n + 1) +ᶠ sine_term y (2 * n + 2)) ≤ᶠ (sine_term y (2 * n + 1) +ᶠ sine_term x (2 * n + 2))
unfolding sine_term
sine_later_pair x y h one n = exponential_pair x y (2 * (2 * n + 1) + 1) (2 * (2 * n + 2) + 1) h one (omega arith) (omega arith)

cosine_later_pair : (x y : Fraction) → x ≤ᶠ y → y ≤ᶠ whole 1 → (n : ℕ)
    → (cosine_term x (2 * n + 2) +ᶠ cosine_term y (2 * suc n + 1)) ≤ᶠ (cosine_term y (2 * n + 2) +ᶠ cosine_term x (2 * suc n + 1))
unfolding cosine_term
cosine_later_pair x y h one n = exponential_pair x y (2 * (2 * n + 2)) (2 * (2 * suc n + 1)) h one (omega arith) (omega arith)

cosine_rises : (x y : Fraction) (k : ℕ) → x ≤ᶠ y → cosine_term x k ≤ᶠ cosine_term y k
unfolding cosine_term
cosine_rises x y k h = exponential_rises (2 * k) h

-- y^2 / 2 + x is at most x^2 / 2 + y
squares_apart : (u w D : ℕ) → u + w ≤ D → (u + w) * (u + w) + 2 * (u * D) ≤ u * u + 2 * ((u + w) * D)
squares_apart u w D h = omega (arith, mul-le-mul_left (2 * w) h)

squares_core : (u v D : ℕ) → u ≤ v → v ≤ D → v * v + 2 * (u * D) ≤ u * u + 2 * (v * D)
squares_core u v D h g =
    let P : ℕ → Type 0 = λ y. y ≤ D → y * y + 2 * (u * D) ≤ u * u + 2 * (y * D) in
    let v_is : u + (v - u) ≡ v = omega arith in
    subst P v_is (λ within. squares_apart u (v - u) D within) g

power_two : (p : ℕ) → p ^ 2 ≡ p * p
power_two p = rw (pow-suc p 1, power_one p) refl

squares_cross : (u v D Z : ℕ) → v * v + 2 * (u * D) ≤ u * u + 2 * (v * D)
    → ((v * v) * D + u * ((D * D) * 2)) * Z ≤ ((u * u) * D + v * ((D * D) * 2)) * Z
squares_cross u v D Z h = omega (arith, mul-le-mul_left (D * Z) h)

squares_over_one : (u v D : ℕ) (p : 0 < D) → u ≤ v → v ≤ D
    → (cosine_term (over_one v D p) 1 +ᶠ over_one u D p) ≤ᶠ (cosine_term (over_one u D p) 1 +ᶠ over_one v D p)
unfolding cosine_term exponential_term power_over factorial over_one ◌+ᶠ◌
squares_over_one u v D p h g = record {
  cross = rw (power_two u, power_two v, power_two D) (squares_cross u v D (((D * D) * 2) * D) (squares_core u v D h g));
}

squares_common : (x y : Fraction) → x ≤ᶠ y → y ≤ᶠ whole 1
    → (cosine_term (over_right x y) 1 +ᶠ over_left x y) ≤ᶠ (cosine_term (over_left x y) 1 +ᶠ over_right x y)
unfolding over_left over_right
squares_common x y h one =
    squares_over_one (x.num * y.den) (y.num * x.den) (x.den * y.den) (mul-pos x.positive y.positive) h.cross (within x.den y.num y.den (at_most_one one))
  where
    within : (D v E : ℕ) → v ≤ E → v * D ≤ D * E
    within D v E h = omega (arith, mul-le-mul_left D h)

squares_spread : (x y : Fraction) → x ≤ᶠ y → y ≤ᶠ whole 1 → (cosine_term y 1 +ᶠ x) ≤ᶠ (cosine_term x 1 +ᶠ y)
squares_spread x y h one =
    le_trans_f (add_le_f (cosine_rises y (over_right x y) 1 (to_right x y)) (to_left x y))
    (le_trans_f (squares_common x y h one)
    (add_le_f (cosine_rises (over_left x y) x 1 (from_left x y)) (from_right x y)))

sine_spreads : (x y : Fraction) → x ≤ᶠ y → y ≤ᶠ whole 1 → (n : ℕ) → (upper_sum (sine_term y) n +ᶠ x) ≤ᶠ (upper_sum (sine_term x) n +ᶠ y)
unfolding upper_sum
sine_spreads x y h one zero = first_spreads x y
sine_spreads x y h one (suc n) =
    spread_step_down (upper_sum (sine_term y) n) (upper_sum (sine_term x) n)
    (sine_term y (2 * n + 1)) (sine_term y (2 * n + 2)) (sine_term x (2 * n + 1)) (sine_term x (2 * n + 2)) x y
    (term_le_upper (sine_term y) (sine_falls y one) n) (sine_spreads x y h one n) (sine_later_pair x y h one n)

-- and the cosine's, pair by pair from the start
cosine_lower_spreads : (x y : Fraction) → x ≤ᶠ y → y ≤ᶠ whole 1 → (n : ℕ) → (lower_sum (cosine_term x) n +ᶠ x) ≤ᶠ (lower_sum (cosine_term y) n +ᶠ y)
unfolding upper_sum lower_sum
cosine_lower_spreads x y h one zero =
    pair_step_down (cosine_term x 0) (cosine_term y 0) (cosine_term x 1) x (cosine_term y 1) y
    ((cosine_falls x (le_trans_f h one)).falls 0 1 refl) (zeroth x y) (squares_spread x y h one)
cosine_lower_spreads x y h one (suc n) =
    spread_step_up (lower_sum (cosine_term x) n) (lower_sum (cosine_term y) n)
    (cosine_term x (2 * n + 2)) (cosine_term x (2 * suc n + 1)) (cosine_term y (2 * n + 2)) (cosine_term y (2 * suc n + 1)) x y
    ((cosine_falls x (le_trans_f h one)).falls (2 * n + 2) (2 * suc n + 1) (omega arith)) (cosine_lower_spreads x y h one n) (cosine_later_pair x y h one n)

cosine_spreads : (x y : Fraction) → x ≤ᶠ y → y ≤ᶠ whole 1 → (n : ℕ) → (upper_sum (cosine_term x) n +ᶠ x) ≤ᶠ (upper_sum (cosine_term y) n +ᶠ y)
unfolding upper_sum lower_sum
cosine_spreads x y h one zero = add_le_f (zeroth x y) h
cosine_spreads x y h one (suc n) =
    le_trans_f (add_swap_f (lower_sum (cosine_term x) n) (cosine_term x (2 * n + 2)) x)
    (le_trans_f (add_le_f (cosine_lower_spreads x y h one n) (cosine_rises x y (2 * n + 2) h))
    (add_swap_f (lower_sum (cosine_term y) n) y (cosine_term y (2 * n + 2))))

-- ---- widths of sine and cosine

-- y is at most w above x, and what changes no faster than x is then at most w above
spread_width : (u v x y w : Fraction) → (u +ᶠ x) ≤ᶠ (v +ᶠ y) → y ≤ᶠ (x +ᶠ w) → u ≤ᶠ (v +ᶠ w)
spread_width u v x y w h g =
    add_cancel_f u (v +ᶠ w) x (le_trans_f h (le_trans_f (add_le_f (le_refl_f v) (le_trans_f g (add_comm_f x w))) (add_left_f v w x)))

last_term : (x : Fraction) (m k : ℕ) → x ≤ᶠ whole 1 → factorial k ≤ factorial m → exponential_term x m ≤ᶠ ratio 1 (factorial k)
unfolding exponential_term power_over
last_term x m k one h =
    le_ratio 1 (factorial k) (exponential_term x m) (factorial_positive k)
    (let both = mul-le-mul {n₁ = x.num ^ m} {m₁ = factorial k} {n₂ = x.den ^ m} {m₂ = factorial m} (pow-le-pow_left (at_most_one one) m) h in omega (arith, both))

factorial_next : (k : ℕ) → factorial k ≤ factorial (suc k)
unfolding factorial
factorial_next k = omega arith

sine_last : (x : Fraction) (n : ℕ) → x ≤ᶠ whole 1 → sine_term x (2 * n + 1) ≤ᶠ ratio 1 (factorial (4 * n + 2))
unfolding sine_term
sine_last x n one = let e : 2 * (2 * n + 1) + 1 ≡ suc (4 * n + 2) = omega arith in rw e (last_term x (suc (4 * n + 2)) (4 * n + 2) one (factorial_next (4 * n + 2)))

cosine_last : (x : Fraction) (n : ℕ) → x ≤ᶠ whole 1 → cosine_term x (2 * n + 1) ≤ᶠ ratio 1 (factorial (4 * n + 2))
unfolding cosine_term
cosine_last x n one = let e : 2 * (2 * n + 1) ≡ 4 * n + 2 = omega arith in rw e (last_term x (4 * n + 2) (4 * n + 2) one (omega arith))

two_widths : (u v l t w z : Fraction) → u ≤ᶠ (v +ᶠ w) → v ≤ᶠ (l +ᶠ t) → t ≤ᶠ z → u ≤ᶠ (l +ᶠ (z +ᶠ w))
two_widths u v l t w z g h k =
    le_trans_f g (le_trans_f (add_le_f (le_trans_f h (add_le_f (le_refl_f l) k)) (le_refl_f w)) (add_right_f l z w))

-- the enclosures of a sine and a cosine are at most 1 / (4n + 2)! + 1 / 25^(2n + 1) wide
pub sine_width : (n : ℕ) (g : Fraction) → g ≤ᶠ whole 45
    → (sine n g).hi ≤ᶠ ((sine n g).lo +ᶠ narrowing n)
unfolding sine sine_of narrowing
sine_width n g h =
    let x = (radians (pi n) g).lo in
    let y = (radians (pi n) g).hi in
    two_widths (upper_sum (sine_term y) n) (upper_sum (sine_term x) n) (lower_sum (sine_term x) n) (sine_term x (2 * n + 1))
    (ratio 1 (25 ^ (2 * n + 1))) (ratio 1 (factorial (4 * n + 2)))
    (spread_width (upper_sum (sine_term y) n) (upper_sum (sine_term x) n) x y (ratio 1 (25 ^ (2 * n + 1)))
    (sine_spreads x y (arc_order n g) (arc_high_one n g h) n) (arc_width n g h))
    (upper_le_lower (sine_term x) n) (sine_last x n (arc_low_one n g h))

pub cosine_width : (n : ℕ) (g : Fraction) → g ≤ᶠ whole 45
    → (cosine n g).hi ≤ᶠ ((cosine n g).lo +ᶠ narrowing n)
unfolding cosine cosine_of narrowing
cosine_width n g h =
    let x = (radians (pi n) g).lo in
    let y = (radians (pi n) g).hi in
    two_widths (upper_sum (cosine_term x) n) (upper_sum (cosine_term y) n) (lower_sum (cosine_term y) n) (cosine_term y (2 * n + 1))
    (ratio 1 (25 ^ (2 * n + 1))) (ratio 1 (factorial (4 * n + 2)))
    (spread_width (upper_sum (cosine_term x) n) (upper_sum (cosine_term y) n) x y (ratio 1 (25 ^ (2 * n + 1)))
    (cosine_spreads x y (arc_order n g) (arc_high_one n g h) n) (arc_width n g h))
    (upper_le_lower (cosine_term y) n) (cosine_last y n (arc_high_one n g h))
