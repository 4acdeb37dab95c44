-- A shown claim holds every solution of every system in the intervals, whoever made it.
use Rattle.std.proofs.Common.{ℕ, zero, suc, ◌+◌, ◌*◌, ◌<◌, ◌≤◌, ap, arith}
use Rattle.std.proofs.Math.Nat.{mul-le-mul_left, le_of_mul-le-mul_left}
use Rattle.interval_system.specs.Whole.{total, IsBelowOne}
use Rattle.radiosity_solve.specs.Shown.{down_to, up_to, IsShownLower, IsShownUpper}
use Rattle.radiosity_solve.specs.Laws.{IsBelowEquations}
use Rattle.interval_system.proofs.Totals.{total-le, total-mix, total-times, total-scale}
use Rattle.radiosity_solve.proofs.Maximum.{at_most}
use Rattle.radiosity_solve.proofs.Pairs.{Solves}

-- ---- rounding to whole multiples of s

pub down-below : (s x : ℕ) → 0 < s → s * down_to s x ≤ x
unfolding down_to
down-below s x p = omega arith

pub down-near : (s x : ℕ) → 0 < s → x ≤ s * down_to s x + s
unfolding down_to
down-near s x p = omega arith

pub up-above : (s x : ℕ) → 0 < s → x ≤ s * up_to s x
unfolding up_to
up-above s x p = omega arith

pub up-near : (s x : ℕ) → 0 < s → s * up_to s x ≤ x + s
unfolding up_to
up-near s x p = omega arith

-- ---- what a row sends, rounded

pub downs-below : (n s : ℕ) (k x : ℕ → ℕ) → 0 < s → s * total n (λ j. down_to s (k j * x j)) ≤ total n (λ j. k j * x j)
downs-below n s k x p =
    omega (
      arith,
      total-scale n s (λ j. down_to s (k j * x j)),
      total-le n (λ j. s * down_to s (k j * x j)) (λ j. k j * x j) (λ j l. down-below s (k j * x j) p),
    )

pub ups-above : (n s : ℕ) (k x : ℕ → ℕ) → 0 < s → total n (λ j. k j * x j) ≤ s * total n (λ j. up_to s (k j * x j))
ups-above n s k x p =
    omega (
      arith,
      total-scale n s (λ j. up_to s (k j * x j)),
      total-le n (λ j. k j * x j) (λ j. s * up_to s (k j * x j)) (λ j l. up-above s (k j * x j) p),
    )

pub downs-near : (n s : ℕ) (k x : ℕ → ℕ) → 0 < s → total n (λ j. k j * x j) ≤ s * total n (λ j. down_to s (k j * x j)) + n * s
downs-near zero s k x p = omega arith
downs-near (suc n) s k x p = omega (arith, downs-near n s k x p, down-near s (k n * x n) p)

pub ups-near : (n s : ℕ) (k x : ℕ → ℕ) → 0 < s → s * total n (λ j. up_to s (k j * x j)) ≤ total n (λ j. k j * x j) + n * s
ups-near zero s k x p = omega arith
ups-near (suc n) s k x p = omega (arith, ups-near n s k x p, up-near s (k n * x n) p)

-- ---- a shown claim

-- what the coefficients k / q send is at most what those of s, rounded up, send
sent-up : (n q s : ℕ) (k hi x : ℕ → ℕ) → 0 < s → ((j : ℕ) → j < n → k j * s ≤ hi j * q)
    → total n (λ j. k j * x j) ≤ q * total n (λ j. up_to s (hi j * x j))
sent-up n q s k hi x p less =
    le_of_mul-le-mul_left {k = s} (omega (
      arith,
      total-scale n s (λ j. k j * x j),
      total-scale n q (λ j. hi j * x j),
      total-le n (λ j. s * (k j * x j)) (λ j. q * (hi j * x j)) (λ j l. omega (arith, mul-le-mul_left (x j) (less j l))),
      mul-le-mul_left q (ups-above n s hi x p),
    )) p

sent-down : (n q s : ℕ) (k lo x : ℕ → ℕ) → 0 < s → ((j : ℕ) → j < n → lo j * q ≤ k j * s)
    → q * total n (λ j. down_to s (lo j * x j)) ≤ total n (λ j. k j * x j)
sent-down n q s k lo x p less =
    le_of_mul-le-mul_left {k = s} (omega (
      arith,
      total-scale n s (λ j. k j * x j),
      total-scale n q (λ j. lo j * x j),
      total-le n (λ j. q * (lo j * x j)) (λ j. s * (k j * x j)) (λ j l. omega (arith, mul-le-mul_left (x j) (less j l))),
      mul-le-mul_left q (downs-below n s lo x p),
    )) p

pub upper_holds : (n s : ℕ) (hi : ℕ → ℕ → ℕ) (dhi upper : ℕ → ℕ) (q : ℕ) (k : ℕ → ℕ → ℕ) (e : ℕ → ℕ) (m : ℕ) (a b : ℕ → ℕ)
    → 0 < s → IsBelowOne n q k → IsBelowEquations n q k e s hi dhi → IsShownUpper n s hi dhi upper → Solves n q k e (λ i. 0) m a b
    → (i : ℕ) → i < n → s * a i ≤ s * b i + m * upper i
upper_holds n s hi dhi upper q k e m a b p below less shown t =
    at_most n q k (λ i. s * a i) (λ i. s * b i + m * upper i) below
    (λ i l.
    let enough : s * e i + total n (λ j. k i j * upper j) ≤ q * upper i =
    omega (arith, less.light i l, sent-up n q s (k i) (hi i) upper p (λ j w. less.coefficient i j l w), mul-le-mul_left q (shown.row i l)) in
    omega (arith, total-mix n s m (k i) b upper, total-times n s (k i) a, ap (λ (z : ℕ). s * z) (t.row i l), mul-le-mul_left m enough))

pub lower_holds : (n s : ℕ) (lo : ℕ → ℕ → ℕ) (dlo lower : ℕ → ℕ) (q : ℕ) (k : ℕ → ℕ → ℕ) (e : ℕ → ℕ) (m : ℕ) (a b : ℕ → ℕ)
    → 0 < s → IsBelowOne n q k → IsBelowEquations n s lo dlo q k e → IsShownLower n s lo dlo lower → Solves n q k e (λ i. 0) m a b
    → (i : ℕ) → i < n → s * b i + m * lower i ≤ s * a i
lower_holds n s lo dlo lower q k e m a b p below less shown t =
    at_most n q k (λ i. s * b i + m * lower i) (λ i. s * a i) below
    (λ i l.
    let little : q * lower i ≤ s * e i + total n (λ j. k i j * lower j) =
    omega (arith, less.light i l, sent-down n q s (k i) (lo i) lower p (λ j w. less.coefficient i j l w), mul-le-mul_left q (shown.row i l)) in
    omega (arith, total-mix n s m (k i) b lower, total-times n s (k i) a, ap (λ (z : ℕ). s * z) (t.row i l), mul-le-mul_left m little))

-- no lower end of a shown claim is above its upper end
pub in_order : (n s : ℕ) (lo hi : ℕ → ℕ → ℕ) (dlo dhi lower upper : ℕ → ℕ) → 0 < s → IsBelowOne n s hi
    → ((i j : ℕ) → i < n → j < n → lo i j ≤ hi i j) → ((i : ℕ) → i < n → dlo i ≤ dhi i)
    → IsShownLower n s lo dlo lower → IsShownUpper n s hi dhi upper → (i : ℕ) → i < n → lower i ≤ upper i
in_order n s lo hi dlo dhi lower upper p below weights lights low high =
    at_most n s hi lower upper below
    (λ i l.
    let sent : total n (λ j. lo i j * lower j) ≤ total n (λ j. hi i j * lower j) =
    total-le n (λ j. lo i j * lower j) (λ j. hi i j * lower j) (λ j w. omega (arith, mul-le-mul_left (lower j) (weights i j l w))) in
    omega (
      arith,
      sent,
      mul-le-mul_left s (low.row i l),
      mul-le-mul_left s (high.row i l),
      mul-le-mul_left s (lights i l),
      downs-below n s (lo i) lower p,
      ups-above n s (hi i) upper p,
    ))
