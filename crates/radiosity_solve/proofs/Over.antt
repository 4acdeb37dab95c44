-- From equations in fractions, each with a denominator of its own, to the same equations in whole numbers over one, and back.
use Rattle.std.proofs.Common.{ℕ, zero, suc, ◌+◌, ◌*◌, ◌<◌, ◌≤◌, ◌≡◌, ap, inl, inr, arith}
use Rattle.std.proofs.Math.Nat.{mul-pos, mul-le-mul_left, eq_of_mul-eq-mul_left, lt_of_mul-lt-mul_left, le_of_mul-le-mul_left, mul-lt-mul_of_pos_left, dvd-mul_left, dvd-mul_right, div-mul_cancel}
use Rattle.std.proofs.lemmas.Nat.Gcd.{dvd_trans}
use Rattle.std.specs.Int.{◌∣◌}
use Rattle.std.proofs.lemmas.Bool.{cases_lt}
use Rattle.fx_base.specs.Fraction.{Fraction, ◌≤ᶠ◌, ◌+ᶠ◌, ◌*ᶠ◌, whole, sum_to}
use Rattle.interval_system.specs.Whole.{total, IsBelowOne}
use Rattle.interval_system.specs.Equations.{value_by, SolvesEquations, RowsBelowOne, product_to, common_denominator, over, IsOver}
use Rattle.radiosity_solve.specs.Laws.{IsBelowEquations}
use Rattle.radiosity_solve.proofs.Pairs.{SolvesPlainly}

-- ---- the product of all denominators

pub product-positive : (n : ℕ) (f : ℕ → ℕ) → ((i : ℕ) → 0 < f i) → 0 < product_to n f
unfolding product_to
product-positive zero f h = omega arith
product-positive (suc n) f h = mul-pos (product-positive n f h) (h n)

pub divides-product : (n : ℕ) (f : ℕ → ℕ) (i : ℕ) → i < n → f i ∣ product_to n f
unfolding product_to
divides-product zero f i l = absurd (omega (arith, l))
divides-product (suc n) f i l = elim (cases_lt i n) [
  | inl w ↦ dvd_trans (f i) {b = product_to n f} {c = product_to n f * f n} (divides-product n f i w) (dvd-mul_right (product_to n f) (f n))
  | inr w ↦ let e : i ≡ n = omega arith in rw e (dvd-mul_left (f n) (product_to n f))
]

pub over-is : (q : ℕ) (a : Fraction) → a.den ∣ q → over q a * a.den ≡ a.num * q
unfolding over
over-is q a h = omega (arith, ap (λ (z : ℕ). a.num * z) (div-mul_cancel a.den h))

pub is_over : (n : ℕ) (k : ℕ → ℕ → Fraction) (d : ℕ → Fraction)
    → IsOver n (common_denominator n k d) (λ i j. over (common_denominator n k d) (k i j)) (λ i. over (common_denominator n k d) (d i)) k d
unfolding common_denominator
is_over n k d = record {
  positive = product-positive n (λ i. row i * (d i).den) (λ i. mul-pos (product-positive n (λ j. (k i j).den) (λ j. (k i j).positive)) (d i).positive);
  coefficient = λ i j l w. over-is q (k i j)
      (dvd_trans (k i j).den {b = row i} {c = q} (divides-product n (λ j. (k i j).den) j w)
      (dvd_trans (row i) {b = row i * (d i).den} {c = q} (dvd-mul_right (row i) (d i).den) (divides-product n (λ i. row i * (d i).den) i l)));
  light = λ i l. over-is q (d i)
      (dvd_trans (d i).den {b = row i * (d i).den} {c = q} (dvd-mul_left (d i).den (row i)) (divides-product n (λ i. row i * (d i).den) i l));
}
  where
    row : ℕ → ℕ
    row i = product_to n (λ j. (k i j).den)

    q : ℕ
    q = product_to n (λ i. product_to n (λ j. (k i j).den) * (d i).den)

-- ---- x over q is the fraction f, where x * f.den ≡ f.num * q: sums, products and equations

pub over-add : (q x y : ℕ) (f g : Fraction) → x * f.den ≡ f.num * q → y * g.den ≡ g.num * q → (x + y) * (f +ᶠ g).den ≡ (f +ᶠ g).num * q
unfolding ◌+ᶠ◌
over-add q x y f g a b = omega (arith, ap (λ (z : ℕ). z * g.den) a, ap (λ (z : ℕ). z * f.den) b)

pub over-mul : (q m x y : ℕ) (f g : Fraction) → x * f.den ≡ f.num * q → y * g.den ≡ g.num * m → x * y * (f *ᶠ g).den ≡ (f *ᶠ g).num * (q * m)
unfolding ◌*ᶠ◌
over-mul q m x y f g a b = omega (arith, ap (λ (z : ℕ). z * (y * g.den)) a, ap (λ (z : ℕ). f.num * q * z) b)

pub over-sum : (n q : ℕ) (x : ℕ → ℕ) (f : ℕ → Fraction) → ((j : ℕ) → j < n → x j * (f j).den ≡ (f j).num * q)
    → total n x * (sum_to n f).den ≡ (sum_to n f).num * q
unfolding sum_to whole
over-sum zero q x f h = omega arith
over-sum (suc n) q x f h = over-add q (total n x) (x n) (sum_to n f) (f n) (over-sum n q x f (λ j l. h j (omega arith))) (h n (omega arith))

-- two fractions with one denominator q are equal where their numerators are
same-over : (q x y a A b B : ℕ) → 0 < q → x * A ≡ a * q → y * B ≡ b * q → x ≡ y → a * B ≡ b * A
same-over q x y a A b B p f g e =
    eq_of_mul-eq-mul_left q p (a * B) (b * A)
    (omega (arith, ap (λ (z : ℕ). z * B) f, ap (λ (z : ℕ). z * A) g, ap (λ (z : ℕ). z * (A * B)) e))

over-same : (q x y a A b B : ℕ) → 0 < A → 0 < B → x * A ≡ a * q → y * B ≡ b * q → a * B ≡ b * A → x ≡ y
over-same q x y a A b B p r f g e =
    eq_of_mul-eq-mul_left (A * B) (mul-pos p r) x y
    (omega (arith, ap (λ (z : ℕ). z * B) f, ap (λ (z : ℕ). z * A) g, ap (λ (z : ℕ). z * q) e))

-- ---- the equations

pub rows_over : (n q : ℕ) (kk : ℕ → ℕ → ℕ) (ee : ℕ → ℕ) (k : ℕ → ℕ → Fraction) (d : ℕ → Fraction) → IsOver n q kk ee k d
    → RowsBelowOne n k → IsBelowOne n q kk
unfolding whole
rows_over n q kk ee k d o b = record {
  row = λ i l. below (total n (kk i)) q (sum_to n (k i)) o.positive (b.row i l).cross (over-sum n q (kk i) (k i) (λ j w. o.coefficient i j l w));
}
  where
    below : (t q : ℕ) (f : Fraction) → 0 < q → f.num * 1 < 1 * f.den → t * f.den ≡ f.num * q → t < q
    below t q f p h e = lt_of_mul-lt-mul_left f.den (omega (arith, mul-lt-mul_of_pos_left h p))

pub over-value : (n q : ℕ) (kk : ℕ → ℕ → ℕ) (ee : ℕ → ℕ) (k : ℕ → ℕ → Fraction) (d : ℕ → Fraction) (m : ℕ) (hh : ℕ → ℕ) (h : ℕ → Fraction)
    → IsOver n q kk ee k d → ((j : ℕ) → j < n → hh j * (h j).den ≡ (h j).num * m) → (i : ℕ) → i < n
    → (m * ee i + total n (λ j. kk i j * hh j)) * (value_by n (d i) (k i) h).den ≡ (value_by n (d i) (k i) h).num * (q * m)
unfolding value_by
over-value n q kk ee k d m hh h o is i l =
    over-add (q * m) (m * ee i) (total n (λ j. kk i j * hh j)) (d i) (sum_to n (λ j. k i j *ᶠ h j))
    (omega (arith, ap (λ (z : ℕ). m * z) (o.light i l)))
    (over-sum n (q * m) (λ j. kk i j * hh j) (λ j. k i j *ᶠ h j) (λ j w. over-mul q m (kk i j) (hh j) (k i j) (h j) (o.coefficient i j l w) (is j w)))

scaled-over : (q m x : ℕ) (f : Fraction) → x * f.den ≡ f.num * m → q * x * f.den ≡ f.num * (q * m)
scaled-over q m x f e = omega (arith, ap (λ (z : ℕ). q * z) e)

pub solves_fractions : (n q : ℕ) (kk : ℕ → ℕ → ℕ) (ee : ℕ → ℕ) (k : ℕ → ℕ → Fraction) (d : ℕ → Fraction) (m : ℕ) (hh : ℕ → ℕ) (h : ℕ → Fraction)
    → IsOver n q kk ee k d → ((j : ℕ) → j < n → hh j * (h j).den ≡ (h j).num * m) → SolvesPlainly n q kk ee m hh → SolvesEquations n k d h
solves_fractions n q kk ee k d m hh h o is s = record {
  row = λ i l. record {
    cross = same-over (q * m) (q * hh i) (m * ee i + total n (λ j. kk i j * hh j)) (h i).num (h i).den (value_by n (d i) (k i) h).num (value_by n (d i) (k i) h).den
        (mul-pos o.positive s.positive) (scaled-over q m (hh i) (h i) (is i l)) (over-value n q kk ee k d m hh h o is i l) (s.row i l);
  };
}

pub solves_whole : (n q : ℕ) (kk : ℕ → ℕ → ℕ) (ee : ℕ → ℕ) (k : ℕ → ℕ → Fraction) (d : ℕ → Fraction) (m : ℕ) (hh : ℕ → ℕ) (h : ℕ → Fraction)
    → IsOver n q kk ee k d → 0 < m → ((j : ℕ) → j < n → hh j * (h j).den ≡ (h j).num * m) → SolvesEquations n k d h → SolvesPlainly n q kk ee m hh
solves_whole n q kk ee k d m hh h o p is s = record {
  positive = p;
  row = λ i l.
      over-same (q * m) (q * hh i) (m * ee i + total n (λ j. kk i j * hh j)) (h i).num (h i).den (value_by n (d i) (k i) h).num (value_by n (d i) (k i) h).den
      (h i).positive (value_by n (d i) (k i) h).positive (scaled-over q m (hh i) (h i) (is i l)) (over-value n q kk ee k d m hh h o is i l) (s.row i l).cross;
}

-- smaller fractions, smaller whole numbers
below-over : (x q a A y q' b B : ℕ) → 0 < A → 0 < B → x * A ≡ a * q → y * B ≡ b * q' → a * B ≤ b * A → x * q' ≤ y * q
below-over x q a A y q' b B p r f g h =
    le_of_mul-le-mul_left {k = A * B} (omega (arith, ap (λ (z : ℕ). z * (B * q')) f, ap (λ (z : ℕ). z * (A * q)) g, mul-le-mul_left (q * q') h)) (mul-pos p r)

pub below_over : (n q : ℕ) (kk : ℕ → ℕ → ℕ) (ee : ℕ → ℕ) (k : ℕ → ℕ → Fraction) (d : ℕ → Fraction)
    (q' : ℕ) (kk' : ℕ → ℕ → ℕ) (ee' : ℕ → ℕ) (k' : ℕ → ℕ → Fraction) (d' : ℕ → Fraction)
    → IsOver n q kk ee k d → IsOver n q' kk' ee' k' d' → ((i j : ℕ) → i < n → j < n → k i j ≤ᶠ k' i j) → ((i : ℕ) → i < n → d i ≤ᶠ d' i)
    → IsBelowEquations n q kk ee q' kk' ee'
below_over n q kk ee k d q' kk' ee' k' d' o o' weights lights = record {
  coefficient = λ i j l w. below-over (kk i j) q (k i j).num (k i j).den (kk' i j) q' (k' i j).num (k' i j).den
      (k i j).positive (k' i j).positive (o.coefficient i j l w) (o'.coefficient i j l w) (weights i j l w).cross;
  light = λ i l. below-over (ee i) q (d i).num (d i).den (ee' i) q' (d' i).num (d' i).den
      (d i).positive (d' i).positive (o.light i l) (o'.light i l) (lights i l).cross;
}
