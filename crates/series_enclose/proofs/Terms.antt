-- The terms of the series: they fall, they grow with x, and pairs of neighbours do too.
use Rattle.std.proofs.Common.{ℕ, zero, suc, ◌+◌, ◌-◌, ◌*◌, ◌^◌, ◌<◌, ◌≤◌, ◌≡◌, arith, subst}
use Rattle.std.proofs.Math.Nat.{mul-le-mul, mul-le-mul_left, mul-pos, pow-suc, pow-zero, pow-le-pow_left, zero-lt-suc}
use Rattle.std.proofs.lemmas.Nat.{mul-pow}
use Rattle.fx_base.specs.Fraction.{Fraction, ◌≤ᶠ◌, ◌+ᶠ◌, whole}
use Rattle.fx_base.proofs.Order.{le_trans_f, add_le_f}
use Rattle.series_enclose.specs.Series.{power_over, arctan_term, factorial, factorial_positive, exponential_term, sine_term, cosine_term}
use Rattle.series_enclose.proofs.Alternating.{IsFalling, IsRisingInPairs, IsSinkingInPairs}

pub pow_two_more : (p m k : ℕ) → k ≡ m + 2 → p ^ k ≡ p ^ m * (p * p)
pow_two_more p m k e = let f : k ≡ suc (suc m) = omega arith in rw (f, pow-suc, pow-suc) (omega arith)

pub at_most_one : {x : Fraction} → x ≤ᶠ whole 1 → x.num ≤ x.den
unfolding whole
at_most_one h = let g = h.cross in omega arith

-- ---- they fall

falling_core : (a P u D d e : ℕ) → u ≤ D → d ≤ e → (a * (u * u)) * (P * d) ≤ a * ((P * (D * D)) * e)
falling_core a P u D d e h g =
    let s = mul-le-mul {n₁ = u} {m₁ = u} {n₂ = D} {m₂ = D} h h in
    omega (arith, mul-le-mul_left (a * P) (mul-le-mul {n₁ = u * u} {m₁ = d} {n₂ = D * D} {m₂ = e} s g))

pub power_over_falls : (x : Fraction) (m k d e : ℕ) (p : 0 < d) (q : 0 < e) → x ≤ᶠ whole 1 → k ≡ m + 2 → d ≤ e
    → power_over x k e q ≤ᶠ power_over x m d p
unfolding power_over
power_over_falls x m k d e p q h f g = record {
  cross = rw (pow_two_more x.num m k f, pow_two_more x.den m k f)
      (falling_core (x.num ^ m) (x.den ^ m) x.num x.den d e (at_most_one h) g);
}

pub factorial_two : (m : ℕ) → factorial (suc (suc m)) ≡ (factorial m * suc m) * suc (suc m)
unfolding factorial
factorial_two m = omega arith

-- six times, where m is at least 1
pub factorial_grows : (m k : ℕ) → k ≡ m + 2 → 1 ≤ m → 6 * factorial m ≤ factorial k
factorial_grows m k e p = let f : k ≡ suc (suc m) = omega arith in
    rw (f, factorial_two) (omega (arith, mul-le-mul_left (factorial m) (six m p)))
  where
    six : (m : ℕ) → 1 ≤ m → 6 ≤ suc m * suc (suc m)
    six m p = let g : 2 ≤ suc m = omega arith in let h : 3 ≤ suc (suc m) = omega arith in mul-le-mul {n₁ = 2} {m₁ = 3} {n₂ = suc m} {m₂ = suc (suc m)} g h

pub factorial_rises : (m k : ℕ) → k ≡ m + 2 → factorial m ≤ factorial k
factorial_rises m k e = let f : k ≡ suc (suc m) = omega arith in
    rw (f, factorial_two) (omega (arith, mul-le-mul_left (factorial m) (one m)))
  where
    one : (m : ℕ) → 1 ≤ suc m * suc (suc m)
    one m = mul-pos (zero-lt-suc m) (zero-lt-suc (suc m))

pub arctan_falls : (t : Fraction) → t ≤ᶠ whole 1 → IsFalling (arctan_term t)
unfolding arctan_term
arctan_falls t h = record {
  falls = λ j k e. power_over_falls t (suc (2 * j)) (suc (2 * k)) (suc (2 * j)) (suc (2 * k)) (zero-lt-suc (2 * j)) (zero-lt-suc (2 * k)) h (omega arith) (omega arith);
}

pub exponential_falls : (x : Fraction) (m k : ℕ) → x ≤ᶠ whole 1 → k ≡ m + 2 → exponential_term x k ≤ᶠ exponential_term x m
unfolding exponential_term
exponential_falls x m k h e =
    power_over_falls x m k (factorial m) (factorial k) (factorial_positive m) (factorial_positive k) h e (factorial_rises m k e)

pub sine_falls : (x : Fraction) → x ≤ᶠ whole 1 → IsFalling (sine_term x)
unfolding sine_term
sine_falls x h = record { falls = λ j k e. exponential_falls x (2 * j + 1) (2 * k + 1) h (omega arith) }

pub cosine_falls : (x : Fraction) → x ≤ᶠ whole 1 → IsFalling (cosine_term x)
unfolding cosine_term
cosine_falls x h = record { falls = λ j k e. exponential_falls x (2 * j) (2 * k) h (omega arith) }

-- ---- they grow with x

rising_core : (a b P E d : ℕ) → a * E ≤ b * P → a * (E * d) ≤ b * (P * d)
rising_core a b P E d h = omega (arith, mul-le-mul_left d h)

pub power_over_rises : {x y : Fraction} (m d : ℕ) (p : 0 < d) → x ≤ᶠ y → power_over x m d p ≤ᶠ power_over y m d p
unfolding power_over
power_over_rises {x} {y} m d p h =
    let g : (x.num * y.den) ^ m ≤ (y.num * x.den) ^ m = pow-le-pow_left h.cross m in
    let f : x.num ^ m * y.den ^ m ≤ y.num ^ m * x.den ^ m = rw (mul-pow x.num y.den m, mul-pow y.num x.den m) at g in
    record { cross = rising_core (x.num ^ m) (y.num ^ m) (x.den ^ m) (y.den ^ m) d f }

pub exponential_rises : {x y : Fraction} (m : ℕ) → x ≤ᶠ y → exponential_term x m ≤ᶠ exponential_term y m
unfolding exponential_term
exponential_rises m h = power_over_rises m (factorial m) (factorial_positive m) h

-- ---- pairs of neighbours

-- of v = u + w at most D, b = a + c, and a v at most b u
pair_core : (a c u w D F G : ℕ) → u + w ≤ D → a * (u + w) ≤ (a + c) * u → 3 * F ≤ G
    → a * ((D * D) * G) + ((a + c) * ((u + w) * (u + w))) * F ≤ (a + c) * ((D * D) * G) + (a * (u * u)) * F
pair_core a c u w D F G h g f =
    let aw : a * w ≤ c * u = omega arith in
    let u_D : u ≤ D = omega arith in
    let uu : u * u ≤ D * D = mul-le-mul {n₁ = u} {m₁ = u} {n₂ = D} {m₂ = D} u_D u_D in
    let uv : u * (u + w) ≤ D * D = mul-le-mul {n₁ = u} {m₁ = u + w} {n₂ = D} {m₂ = D} u_D h in
    let vv : (u + w) * (u + w) ≤ D * D = mul-le-mul {n₁ = u + w} {m₁ = u + w} {n₂ = D} {m₂ = D} h h in
    omega (arith, mul-le-mul_left ((2 * u + w) * F) aw, mul-le-mul_left (c * F) uu, mul-le-mul_left (c * F) uv, mul-le-mul_left (c * F) vv, mul-le-mul_left (c * (D * D)) f)

pair_numbers : (a b u v D F G : ℕ) → u ≤ v → v ≤ D → a ≤ b → a * v ≤ b * u → 3 * F ≤ G
    → a * ((D * D) * G) + (b * (v * v)) * F ≤ b * ((D * D) * G) + (a * (u * u)) * F
pair_numbers a b u v D F G h k g r f =
    let P : ℕ → Type 0 = λ y. y ≤ D → a * y ≤ b * u → a * ((D * D) * G) + (b * (y * y)) * F ≤ b * ((D * D) * G) + (a * (u * u)) * F in
    let Q : ℕ → Type 0 = λ z. a * (u + (v - u)) ≤ z * u
    → a * ((D * D) * G) + (z * ((u + (v - u)) * (u + (v - u)))) * F ≤ z * ((D * D) * G) + (a * (u * u)) * F in
    let v_is : u + (v - u) ≡ v = omega arith in
    let b_is : a + (b - a) ≡ b = omega arith in
    subst P v_is (λ within ratio. subst Q b_is (λ ratio_of. pair_core a (b - a) u (v - u) D F G within ratio_of f) ratio) k r

-- u^m v is at most v^m u, where m is at least 1
power_ratio : (u v m : ℕ) → u ≤ v → 1 ≤ m → u ^ m * v ≤ v ^ m * u
power_ratio u v zero h p = absurd (omega arith)
power_ratio u v (suc m) h p = rw (pow-suc u m, pow-suc v m) (omega (arith, mul-le-mul_left (u * v) (pow-le-pow_left h m)))

-- two fractions over one denominator
unfoldable pub over_one : (u D : ℕ) → 0 < D → Fraction
over_one u D p = record { num = u; den = D; positive = p }

pair_cross : (a b u v P D F G Z : ℕ) → a * ((D * D) * G) + (b * (v * v)) * F ≤ b * ((D * D) * G) + (a * (u * u)) * F
    → (a * ((P * (D * D)) * G) + (b * (v * v)) * (P * F)) * Z ≤ (b * ((P * (D * D)) * G) + (a * (u * u)) * (P * F)) * Z
pair_cross a b u v P D F G Z h = omega (arith, mul-le-mul_left (P * Z) h)

pair_over_one : (u v D m k F G : ℕ) (p : 0 < D) (q : 0 < F) (r : 0 < G) → u ≤ v → v ≤ D → k ≡ m + 2 → 1 ≤ m → 3 * F ≤ G
    → (power_over (over_one u D p) m F q +ᶠ power_over (over_one v D p) k G r)
    ≤ᶠ (power_over (over_one v D p) m F q +ᶠ power_over (over_one u D p) k G r)
unfolding power_over over_one ◌+ᶠ◌
pair_over_one u v D m k F G p q r h g e l f = record {
  cross = rw (pow_two_more D m k e, pow_two_more u m k e, pow_two_more v m k e)
      (pair_cross (u ^ m) (v ^ m) u v (D ^ m) D F G ((D ^ m * F) * ((D ^ m * (D * D)) * G))
      (pair_numbers (u ^ m) (v ^ m) u v D F G h g (pow-le-pow_left h m) (power_ratio u v m h l) f));
}

unfoldable pub over_left : (x y : Fraction) → Fraction
over_left x y = over_one (x.num * y.den) (x.den * y.den) (mul-pos x.positive y.positive)

unfoldable pub over_right : (x y : Fraction) → Fraction
over_right x y = over_one (y.num * x.den) (x.den * y.den) (mul-pos x.positive y.positive)

pub to_left : (x y : Fraction) → x ≤ᶠ over_left x y
unfolding over_one over_left
to_left x y = record { cross = omega arith }

pub from_left : (x y : Fraction) → over_left x y ≤ᶠ x
unfolding over_one over_left
from_left x y = record { cross = omega arith }

pub to_right : (x y : Fraction) → y ≤ᶠ over_right x y
unfolding over_one over_right
to_right x y = record { cross = omega arith }

pub from_right : (x y : Fraction) → over_right x y ≤ᶠ y
unfolding over_one over_right
from_right x y = record { cross = omega arith }

pair_common : (x y : Fraction) (m k F G : ℕ) (q : 0 < F) (r : 0 < G) → x ≤ᶠ y → y ≤ᶠ whole 1 → k ≡ m + 2 → 1 ≤ m → 3 * F ≤ G
    → (power_over (over_left x y) m F q +ᶠ power_over (over_right x y) k G r)
    ≤ᶠ (power_over (over_right x y) m F q +ᶠ power_over (over_left x y) k G r)
unfolding over_left over_right
pair_common x y m k F G q r h one e l f =
    pair_over_one (x.num * y.den) (y.num * x.den) (x.den * y.den) m k F G (mul-pos x.positive y.positive) q r h.cross
    (within x.den y.num y.den (at_most_one one)) e l f
  where
    within : (D v E : ℕ) → v ≤ E → v * D ≤ D * E
    within D v E h = omega (arith, mul-le-mul_left D h)

-- x^m / F - x^(m + 2) / G rises with x up to 1
pub pair_of_powers : (x y : Fraction) (m k F G : ℕ) (q : 0 < F) (r : 0 < G) → x ≤ᶠ y → y ≤ᶠ whole 1 → k ≡ m + 2 → 1 ≤ m → 3 * F ≤ G
    → (power_over x m F q +ᶠ power_over y k G r) ≤ᶠ (power_over y m F q +ᶠ power_over x k G r)
pair_of_powers x y m k F G q r h one e l f =
    le_trans_f (add_le_f (power_over_rises m F q (to_left x y)) (power_over_rises k G r (to_right x y)))
    (le_trans_f (pair_common x y m k F G q r h one e l f)
    (add_le_f (power_over_rises m F q (from_right x y)) (power_over_rises k G r (from_left x y))))

pub exponential_pair : (x y : Fraction) (m k : ℕ) → x ≤ᶠ y → y ≤ᶠ whole 1 → k ≡ m + 2 → 1 ≤ m
    → (exponential_term x m +ᶠ exponential_term y k) ≤ᶠ (exponential_term y m +ᶠ exponential_term x k)
unfolding exponential_term
exponential_pair x y m k h one e l =
    pair_of_powers x y m k (factorial m) (factorial k) (factorial_positive m) (factorial_positive k) h one e l
    (let g = factorial_grows m k e l in omega arith)

-- ---- sine and cosine

pub sine_pairs : (x y : Fraction) → x ≤ᶠ y → y ≤ᶠ whole 1 → IsRisingInPairs (sine_term x) (sine_term y)
unfolding sine_term
sine_pairs x y h one = record {
  terms = λ k. exponential_rises (2 * k + 1) h;
  pairs = λ j k e. exponential_pair x y (2 * (2 * k) + 1) (2 * j + 1) h one (omega arith) (omega arith);
}

zeroth_terms : (x y : Fraction) (d : ℕ) (p : 0 < d) → power_over y 0 d p ≤ᶠ power_over x 0 d p
unfolding power_over
zeroth_terms x y d p = record { cross = rw (pow-zero y.num, pow-zero x.num, pow-zero x.den, pow-zero y.den) (omega arith) }

pub cosine_pairs : (x y : Fraction) → x ≤ᶠ y → y ≤ᶠ whole 1 → IsSinkingInPairs (cosine_term x) (cosine_term y)
unfolding cosine_term exponential_term
cosine_pairs x y h one = record {
  start = zeroth_terms x y (factorial 0) (factorial_positive 0);
  terms = λ k. power_over_rises (2 * k) (factorial (2 * k)) (factorial_positive (2 * k)) h;
  pairs = λ n. exponential_pair x y (2 * (2 * n + 1)) (2 * (2 * n + 2)) h one (omega arith) (omega arith);
}
