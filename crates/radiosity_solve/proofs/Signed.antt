-- From whole numbers with a sign to pairs of whole numbers without, and back.
use Rattle.std.proofs.Common.{ℕ, zero, suc, ◌+◌, ◌*◌, ◌<◌, ◌≤◌, ◌≡◌, refl, ap, arith}
use Rattle.std.proofs.Math.Nat.{mul-le-mul_left, le_of_mul-le-mul_left}
use Rattle.std.specs.Prelude.{ℤ, pos, negsuc, neg_ℤ, ◌+ℤ◌, ◌-ℤ◌, ◌*ℤ◌}
use borrow.Author.Differences.{up, down, ints, same_in, at_most_in, le_out}
use Rattle.fx_base.specs.Units.{natural}
use Rattle.interval_system.specs.Whole.{total, total_ℤ, IsBelowOne, IsSolution, denominator, numerator}
use Rattle.radiosity_solve.specs.Laws.{signed_numerator, OneSolution, Comparison}
use Rattle.radiosity_solve.proofs.Pairs.{Solves, SolvesPlainly, none, plain-solves}
use Rattle.radiosity_solve.proofs.Elimination.{eliminated}
use Rattle.radiosity_solve.proofs.Unique.{one_solution, not_negative, compared}

-- ---- products with a whole number that has no sign

pub times-parts : (k : ℕ) (z : ℤ) → up (pos k *ℤ z) + k * down z ≡ down (pos k *ℤ z) + k * up z
times-parts k (pos n) = omega (arith, ints)
times-parts k (negsuc n) = omega (arith, ints)

total-parts : (n : ℕ) (k : ℕ → ℕ) (h : ℕ → ℤ)
    → up (total_ℤ n (λ j. pos (k j) *ℤ h j)) + total n (λ j. k j * down (h j)) ≡ down (total_ℤ n (λ j. pos (k j) *ℤ h j)) + total n (λ j. k j * up (h j))
total-parts zero k h = refl
total-parts (suc n) k h = omega (arith, ints, total-parts n k h, times-parts (k n) (h n))

pub pairs : (n q : ℕ) (k : ℕ → ℕ → ℕ) (e : ℕ → ℤ) (m : ℕ) (h : ℕ → ℤ) → IsSolution n q k e m h
    → Solves n q k (λ i. up (e i)) (λ i. down (e i)) m (λ i. up (h i)) (λ i. down (h i))
pairs n q k e m h s = record {
  positive = s.positive;
  row = λ i l. omega (arith, ints, s.row i l, times-parts q (h i), times-parts m (e i), total-parts n (k i) h);
}

difference-parts : (a b : ℕ) → up (pos a -ℤ pos b) + b ≡ down (pos a -ℤ pos b) + a
difference-parts a b = omega (arith, ints)

total-differences : (n : ℕ) (k a b : ℕ → ℕ)
    → up (total_ℤ n (λ j. pos (k j) *ℤ (pos (a j) -ℤ pos (b j)))) + total n (λ j. k j * b j)
    ≡ down (total_ℤ n (λ j. pos (k j) *ℤ (pos (a j) -ℤ pos (b j)))) + total n (λ j. k j * a j)
total-differences zero k a b = refl
total-differences (suc n) k a b =
    omega (arith, ints, total-differences n k a b, times-parts (k n) (pos (a n) -ℤ pos (b n)), ap (λ (z : ℕ). k n * z) (difference-parts (a n) (b n)))

pub from_pairs : (n q : ℕ) (k : ℕ → ℕ → ℕ) (e : ℕ → ℤ) (m : ℕ) (a b : ℕ → ℕ)
    → Solves n q k (λ i. up (e i)) (λ i. down (e i)) m a b → IsSolution n q k e m (λ i. pos (a i) -ℤ pos (b i))
from_pairs n q k e m a b s = record {
  positive = s.positive;
  row = λ i l. same_in (pos q *ℤ (pos (a i) -ℤ pos (b i))) ((pos m *ℤ e i) +ℤ total_ℤ n (λ j. pos (k i j) *ℤ (pos (a j) -ℤ pos (b j))))
      (omega (
        arith,
        ints,
        s.row i l,
        times-parts q (pos (a i) -ℤ pos (b i)),
        ap (λ (z : ℕ). q * z) (difference-parts (a i) (b i)),
        times-parts m (e i),
        total-differences n (k i) a b,
      ));
}

-- ---- the laws in whole numbers

natural-up : (z : ℤ) → natural z ≡ up z
natural-up (pos n) = refl
natural-up (negsuc n) = refl

natural-down : (z : ℤ) → natural (neg_ℤ z) ≡ down z
natural-down (pos zero) = refl
natural-down (pos (suc n)) = refl
natural-down (negsuc n) = refl

-- the solution of light e less that of light f
difference : (n q : ℕ) (k : ℕ → ℕ → ℕ) (e f : ℕ → ℕ) (u v : ℕ → ℕ) → ((i : ℕ) → i < n → e i ≡ u i) → ((i : ℕ) → i < n → f i ≡ v i)
    → IsBelowOne n q k → Solves n q k u v (denominator n q k) (numerator n q k e) (numerator n q k f)
difference n q k e f u v e-is f-is b =
    let s : SolvesPlainly n q k e (denominator n q k) (numerator n q k e) = eliminated n q k e b in
    let t : SolvesPlainly n q k f (denominator n q k) (numerator n q k f) = eliminated n q k f b in
    record {
      positive = s.positive;
      row = λ i l. omega (arith, s.row i l, t.row i l, ap (λ (z : ℕ). denominator n q k * z) (e-is i l), ap (λ (z : ℕ). denominator n q k * z) (f-is i l));
    }

signed-solution : (n q : ℕ) (k : ℕ → ℕ → ℕ) (e : ℕ → ℤ) → IsBelowOne n q k
    → IsSolution n q k e (denominator n q k) (signed_numerator n q k e)
signed-solution n q k e b =
    from_pairs n q k e (denominator n q k) (numerator n q k (λ j. natural (e j))) (numerator n q k (λ j. natural (neg_ℤ (e j))))
    (difference n q k (λ j. natural (e j)) (λ j. natural (neg_ℤ (e j))) (λ i. up (e i)) (λ i. down (e i)) (λ i l. natural-up (e i)) (λ i l. natural-down (e i)) b)

cross : (o m : ℕ) (x y : ℤ) → o * up x + m * down y ≡ o * down x + m * up y → pos o *ℤ x ≡ pos m *ℤ y
cross o m x y e = same_in (pos o *ℤ x) (pos m *ℤ y) (omega (arith, times-parts o x, times-parts m y, e))

pub has_one_solution : OneSolution
has_one_solution n q k e b =
    let s : IsSolution n q k e (denominator n q k) (signed_numerator n q k e) = signed-solution n q k e b in
    record {
      solves = s;
      alone = λ m h t i l. cross (denominator n q k) m (h i) (signed_numerator n q k e i)
          (one_solution n q k (λ j. up (e j)) (λ j. down (e j)) m (λ j. up (h j)) (λ j. down (h j))
          (denominator n q k) (λ j. up (signed_numerator n q k e j)) (λ j. down (signed_numerator n q k e j)) b
          (pairs n q k e m h t) (pairs n q k e (denominator n q k) (signed_numerator n q k e) s) i l);
      not_negative = λ light i l. at_most_in (pos 0) (signed_numerator n q k e i)
          (omega (
            arith,
            not_negative n q k (λ j. up (e j)) (λ j. down (e j)) (denominator n q k)
                (λ j. up (signed_numerator n q k e j)) (λ j. down (signed_numerator n q k e j)) b
                (λ j w. omega (arith, le_out (pos 0) (e j) (light j w))) (pairs n q k e (denominator n q k) (signed_numerator n q k e) s) i l,
          ));
    }

-- a solution of the larger equations, of either sign in form, is the plain one
below-other : (o m m' a b a' b' c : ℕ) → 0 < o → o * a ≤ o * b + m * c → o * a' ≡ o * b' + m' * c → m' * a + m * b' ≤ m' * b + m * a'
below-other o m m' a b a' b' c p h e =
    le_of_mul-le-mul_left {k = o} (omega (arith, mul-le-mul_left m' h, ap (λ (z : ℕ). m * z) e)) p

none-light : (n q : ℕ) (k : ℕ → ℕ → ℕ) (e : ℕ → ℕ) (m : ℕ) (h : ℕ → ℤ) → IsSolution n q k (λ j. pos (e j)) m h
    → Solves n q k e none m (λ j. up (h j)) (λ j. down (h j))
unfolding none
none-light n q k e m h s = pairs n q k (λ j. pos (e j)) m h s

second-is : (m c o a b i : ℕ) → m * c + o * b ≡ m * none i + o * a → o * a ≡ o * b + m * c
unfolding none
second-is m c o a b i e = omega (arith, e)

pub is_compared : Comparison
is_compared n q k e m h q' k' e' m' h' b b' less s s' i l =
    let t : SolvesPlainly n q' k' e' (denominator n q' k') (numerator n q' k' e') = eliminated n q' k' e' b' in
    let some : total n (k' i) < q' = b'.row i l in
    let first : denominator n q' k' * up (h i) ≤ denominator n q' k' * down (h i) + m * numerator n q' k' e' i =
    compared n q k e m (λ j. up (h j)) (λ j. down (h j)) q' k' e' (denominator n q' k') (numerator n q' k' e') b (omega arith) less
    (pairs n q k (λ j. pos (e j)) m h s) t i l in
    let second : m' * numerator n q' k' e' i + denominator n q' k' * down (h' i) ≡ m' * none i + denominator n q' k' * up (h' i) =
    one_solution n q' k' e' none (denominator n q' k') (numerator n q' k' e') none m' (λ j. up (h' j)) (λ j. down (h' j)) b'
    (plain-solves n q' k' e' (denominator n q' k') (numerator n q' k' e') t) (none-light n q' k' e' m' h' s') i l in
    at_most_in (pos m' *ℤ h i) (pos m *ℤ h' i) (omega (
      arith,
      times-parts m' (h i),
      times-parts m (h' i),
      below-other (denominator n q' k') m m' (up (h i)) (down (h i)) (up (h' i)) (down (h' i)) (numerator n q' k' e' i) t.positive first (second-is m' (numerator n q' k' e' i) (denominator n q' k') (up (h' i)) (down (h' i)) i second),
    ))
