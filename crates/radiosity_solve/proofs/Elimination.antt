-- The elimination solves: its denominator is positive and each row of the equations holds.
use Rattle.std.proofs.Common.{ℕ, zero, suc, ◌+◌, ◌*◌, ◌<◌, ◌≤◌, ◌≡◌, ap, inl, inr, arith}
use Rattle.std.proofs.Math.Nat.{mul-le-mul_left, mul-pos}
use Rattle.std.proofs.lemmas.Bool.{cases_lt, lt-ltb, le-ltb}
use Rattle.interval_system.specs.Whole.{total, IsBelowOne, rest, reduced, reduced_light, denominator, numerator}
use Rattle.radiosity_solve.proofs.Pairs.{SolvesPlainly}

-- ---- the equations without the last patch

rest-positive : (p q : ℕ) (k : ℕ → ℕ → ℕ) → IsBelowOne (suc p) q k → 0 < rest p q k
rest-positive p q k b = omega (arith, b.row p (omega arith))

reduced-total : (p q : ℕ) (k : ℕ → ℕ → ℕ) (i : ℕ) (h : ℕ → ℕ)
    → total p (λ j. reduced p q k i j * h j) ≡ rest p q k * total p (λ j. k i j * h j) + k i p * total p (λ j. k p j * h j)
unfolding reduced
reduced-total p q k i h = reduced-total-by p (rest p q k) (k i p) (k i) (k p) h where
  reduced-total-by : (p u c : ℕ) (a b h : ℕ → ℕ)
      → total p (λ j. (a j * u + c * b j) * h j) ≡ u * total p (λ j. a j * h j) + c * total p (λ j. b j * h j)
  reduced-total-by zero u c a b h = omega arith
  reduced-total-by (suc p) u c a b h = omega (arith, reduced-total-by p u c a b h)

below-row : (u c q a b : ℕ) → 0 < u → a + c < q → b ≤ u → u * a + c * b < q * u
below-row u c q a b pos l w =
    let more : suc (a + c) ≤ q = omega arith in
    omega (arith, mul-le-mul_left u more, mul-le-mul_left c w)

reduced-row : (p q : ℕ) (k : ℕ → ℕ → ℕ) (i : ℕ) → total p (reduced p q k i) ≡ rest p q k * total p (k i) + k i p * total p (k p)
unfolding reduced
reduced-row p q k i = row p (rest p q k) (k i p) (k i) (k p) where
  row : (p u c : ℕ) (a b : ℕ → ℕ) → total p (λ j. a j * u + c * b j) ≡ u * total p a + c * total p b
  row zero u c a b = omega arith
  row (suc p) u c a b = omega (arith, row p u c a b)

pub reduced-below : (p q : ℕ) (k : ℕ → ℕ → ℕ) → IsBelowOne (suc p) q k → IsBelowOne p (q * rest p q k) (reduced p q k)
reduced-below p q k b = record {
  row = λ i l.
      let own : total p (k p) + k p p < q = b.row p (omega arith) in
      let other : total p (k i) + k i p < q = b.row i (omega arith) in
      rw (reduced-row p q k i) (below-row (rest p q k) (k i p) q (total p (k i)) (total p (k p)) (rest-positive p q k b) other (omega arith));
}

-- ---- its solution extends to the last patch

extended-row : (q u m ei ep c h si sp g : ℕ) → q * u * h ≡ m * (ei * u + c * ep) + (u * si + c * sp)
    → g ≡ m * ep + sp → q * (h * u) ≡ m * u * ei + (u * si + c * g)
extended-row q u m ei ep c h si sp g e w = omega (arith, e, ap (λ (z : ℕ). c * z) w)

last-row : (q u k m ep sp g : ℕ) → u + k ≡ q → g ≡ m * ep + sp → q * g ≡ m * u * ep + (u * sp + k * g)
last-row q u k m ep sp g e w = omega (arith, ap (λ (z : ℕ). z * g) e, ap (λ (z : ℕ). u * z) w)

scaled : (p u : ℕ) (k g h : ℕ → ℕ) → ((j : ℕ) → j < p → g j ≡ h j * u) → total p (λ j. k j * g j) ≡ u * total p (λ j. k j * h j)
scaled zero u k g h e = omega arith
scaled (suc p) u k g h e =
    omega (arith, scaled p u k g h (λ j l. e j (omega arith)), ap (λ (z : ℕ). k p * z) (e p (omega arith)))

extends : (p q : ℕ) (k : ℕ → ℕ → ℕ) (e : ℕ → ℕ) (m : ℕ) (h g : ℕ → ℕ) → IsBelowOne (suc p) q k
    → SolvesPlainly p (q * rest p q k) (reduced p q k) (reduced_light p q k e) m h
    → ((j : ℕ) → j < p → g j ≡ h j * rest p q k) → g p ≡ m * e p + total p (λ j. k p j * h j)
    → SolvesPlainly (suc p) q k e (m * rest p q k) g
unfolding reduced_light
extends p q k e m h g b s old new = record {
  positive = mul-pos s.positive (rest-positive p q k b);
  row = λ i l. elim (cases_lt i p) [
    | inl w ↦
        let row : q * rest p q k * h i ≡ m * (e i * rest p q k + k i p * e p)
        + (rest p q k * total p (λ j. k i j * h j) + k i p * total p (λ j. k p j * h j))
        = rw (← reduced-total p q k i h) (s.row i w) in
        omega (
          arith,
          scaled p (rest p q k) (k i) g h old,
          ap (λ (z : ℕ). q * z) (old i w),
          extended-row q (rest p q k) m (e i) (e p) (k i p) (h i) (total p (λ j. k i j * h j)) (total p (λ j. k p j * h j)) (g p) row new,
        )
    | inr w ↦
        let is : i ≡ p = omega arith in
        let own : total p (k p) + k p p < q = b.row p (omega arith) in
        let whole : rest p q k + k p p ≡ q = omega arith in
        rw is (omega (
          arith,
          scaled p (rest p q k) (k p) g h old,
          last-row q (rest p q k) (k p p) m (e p) (total p (λ j. k p j * h j)) (g p) whole new,
        ))
  ];
}

-- ---- the whole elimination

pub eliminated : (n q : ℕ) (k : ℕ → ℕ → ℕ) (e : ℕ → ℕ) → IsBelowOne n q k → SolvesPlainly n q k e (denominator n q k) (numerator n q k e)
unfolding denominator numerator
eliminated zero q k e b = record { positive = omega arith; row = λ i l. absurd (omega (arith, l)) }
eliminated (suc p) q k e b =
    extends p q k e (denominator p (q * rest p q k) (reduced p q k)) (numerator p (q * rest p q k) (reduced p q k) (reduced_light p q k e))
    (numerator (suc p) q k e) b (eliminated p (q * rest p q k) (reduced p q k) (reduced_light p q k e) (reduced-below p q k b))
    (λ j l. rw (lt-ltb j p l))
    (rw (le-ltb p p (omega arith)))
