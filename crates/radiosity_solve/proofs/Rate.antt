-- How near the iterates come to the extreme solution on their side: by a small change, and by the number of turns. s ticks are one.
use Rattle.std.proofs.Common.{ℕ, zero, suc, ◌+◌, ◌*◌, ◌<◌, ◌≤◌, ◌≡◌, ap, arith}
use Rattle.std.proofs.Math.Nat.{mul-le-mul_left, le_of_mul-le-mul_left}
use Rattle.interval_system.specs.Whole.{total, IsBelowOne}
use Rattle.radiosity_solve.specs.Shown.{lower_sum, upper_sum}
use Rattle.interval_system.proofs.Totals.{total-le, total-times}
use Rattle.radiosity_solve.proofs.Maximum.{at_most}
use Rattle.radiosity_solve.proofs.Pairs.{SolvesPlainly}
use Rattle.radiosity_solve.proofs.Claims.{downs-near, ups-near}

-- the row sums are at most 255/256
pub record IsMild (n s : ℕ) (k : ℕ → ℕ → ℕ) : Type 0 where
  pub row : (i : ℕ) → i < n → 256 * total n (k i) ≤ 255 * s

pub light-below : (n s : ℕ) (k : ℕ → ℕ → ℕ) → 0 < s → IsMild n s k → IsBelowOne n s k
light-below n s k p b = record { row = λ i l. omega (arith, b.row i l) }

total-shift : (n c x d : ℕ) (k f : ℕ → ℕ) → total n (λ j. k j * (c * f j + x * d)) ≡ c * total n (λ j. k j * f j) + x * d * total n k
total-shift zero c x d k f = omega arith
total-shift (suc n) c x d k f = omega (arith, total-shift n c x d k f)

-- ---- where a turn changes no value by more than d ticks

pub upper_by_change : (n s : ℕ) (hi : ℕ → ℕ → ℕ) (dhi : ℕ → ℕ) (m : ℕ) (h x : ℕ → ℕ) (d : ℕ) → 0 < s → IsMild n s hi
    → SolvesPlainly n s hi dhi m h → ((i : ℕ) → i < n → x i ≤ upper_sum n s hi dhi x i + d)
    → (i : ℕ) → i < n → m * x i ≤ s * h i + m * (256 * (n + d))
upper_by_change n s hi dhi m h x d p light t change =
    at_most n s hi (λ i. m * x i) (λ i. s * h i + m * (256 * (n + d))) (light-below n s hi p light)
    (λ i l.
    let turned : s * x i ≤ s * dhi i + total n (λ j. hi i j * x j) + (n + d) * s =
    omega (arith, mul-le-mul_left s (change i l), ups-near n s (hi i) x p) in
    omega (
      arith,
      total-shift n s m (256 * (n + d)) (hi i) h,
      total-times n m (hi i) x,
      ap (λ (z : ℕ). s * z) (t.row i l),
      mul-le-mul_left m turned,
      mul-le-mul_left (m * (n + d)) (light.row i l),
    ))

pub lower_by_change : (n s : ℕ) (lo : ℕ → ℕ → ℕ) (dlo : ℕ → ℕ) (m : ℕ) (h x : ℕ → ℕ) (d : ℕ) → 0 < s → IsMild n s lo
    → SolvesPlainly n s lo dlo m h → ((i : ℕ) → i < n → lower_sum n s lo dlo x i ≤ x i + d)
    → (i : ℕ) → i < n → s * h i ≤ m * x i + m * (256 * (n + d))
lower_by_change n s lo dlo m h x d p light t change =
    at_most n s lo (λ i. s * h i) (λ i. m * x i + m * (256 * (n + d))) (light-below n s lo p light)
    (λ i l.
    let turned : s * dlo i + total n (λ j. lo i j * x j) ≤ s * x i + (n + d) * s =
    omega (arith, mul-le-mul_left s (change i l), downs-near n s (lo i) x p) in
    omega (
      arith,
      total-shift n m m (256 * (n + d)) (lo i) x,
      total-times n s (lo i) h,
      ap (λ (z : ℕ). s * z) (t.row i l),
      mul-le-mul_left m turned,
      mul-le-mul_left (m * (n + d)) (light.row i l),
    ))

-- ---- a turn brings a vector nearer: where c * m times its distance was at most m * e, that of the next is at most (255 e + 256 c n) / 256

pub upper_turn : (n s : ℕ) (hi : ℕ → ℕ → ℕ) (dhi : ℕ → ℕ) (m : ℕ) (h x : ℕ → ℕ) (c e : ℕ) → 0 < s → IsMild n s hi
    → SolvesPlainly n s hi dhi m h → ((i : ℕ) → i < n → c * (m * x i) ≤ c * (s * h i) + m * e)
    → (i : ℕ) → i < n → 256 * c * (m * upper_sum n s hi dhi x i) ≤ 256 * c * (s * h i) + m * (255 * e + 256 * c * n)
upper_turn n s hi dhi m h x c e p light t near i l =
    let sent : c * m * total n (λ j. hi i j * x j) ≤ c * s * total n (λ j. hi i j * h j) + m * e * total n (hi i) =
    omega (
      arith,
      total-times n (c * m) (hi i) x,
      total-shift n (c * s) m e (hi i) h,
      total-le n (λ j. hi i j * (c * m * x j)) (λ j. hi i j * (c * s * h j + m * e))
          (λ j w. omega (arith, mul-le-mul_left (hi i j) (near j w))),
    ) in
    le_of_mul-le-mul_left {k = s} (omega (
      arith,
      ap (λ (z : ℕ). 256 * c * s * z) (t.row i l),
      mul-le-mul_left 256 sent,
      mul-le-mul_left (256 * c * m) (ups-near n s (hi i) x p),
      mul-le-mul_left (m * e) (light.row i l),
    )) p

pub lower_turn : (n s : ℕ) (lo : ℕ → ℕ → ℕ) (dlo : ℕ → ℕ) (m : ℕ) (h x : ℕ → ℕ) (c e : ℕ) → 0 < s → IsMild n s lo
    → SolvesPlainly n s lo dlo m h → ((i : ℕ) → i < n → c * (s * h i) ≤ c * (m * x i) + m * e)
    → (i : ℕ) → i < n → 256 * c * (s * h i) ≤ 256 * c * (m * lower_sum n s lo dlo x i) + m * (255 * e + 256 * c * n)
lower_turn n s lo dlo m h x c e p light t near i l =
    let sent : c * s * total n (λ j. lo i j * h j) ≤ c * m * total n (λ j. lo i j * x j) + m * e * total n (lo i) =
    omega (
      arith,
      total-times n (c * s) (lo i) h,
      total-shift n (c * m) m e (lo i) x,
      total-le n (λ j. lo i j * (c * s * h j)) (λ j. lo i j * (c * m * x j + m * e))
          (λ j w. omega (arith, mul-le-mul_left (lo i j) (near j w))),
    ) in
    le_of_mul-le-mul_left {k = s} (omega (
      arith,
      ap (λ (z : ℕ). 256 * c * s * z) (t.row i l),
      mul-le-mul_left 256 sent,
      mul-le-mul_left (256 * c * m) (downs-near n s (lo i) x p),
      mul-le-mul_left (m * e) (light.row i l),
    )) p
