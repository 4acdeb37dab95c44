-- Sums of terms that fall, added and taken away in turn.
use Rattle.std.proofs.Common.{ℕ, zero, suc, ◌+◌, ◌*◌, ◌≡◌, arith, refl}
use Rattle.fx_base.specs.Fraction.{Fraction, ◌≤ᶠ◌, ◌+ᶠ◌, ◌-ᶠ◌}
use Rattle.fx_base.proofs.Order.{le_refl_f, le_trans_f, add_le_f, add_comm_f, add_right_f, add_left_f, add_swap_f, add_cancel_f, le_add_left_f, sub_le_f, le_sub_f, le_sub_add_f, sub_add_f, sub_le_self_f, sub_mono_f}
use Rattle.series_enclose.specs.Series.{upper_sum, lower_sum}

pub record IsFalling (t : ℕ → Fraction) : Type 0 where
  pub falls : (j k : ℕ) → k ≡ j + 1 → t k ≤ᶠ t j

-- nothing is cut: what is taken away is at most what stands
pub term_le_upper : (t : ℕ → Fraction) → IsFalling t → (n : ℕ) → t (2 * n + 1) ≤ᶠ upper_sum t n
unfolding upper_sum
term_le_upper t h zero = h.falls 0 1 refl
term_le_upper t h (suc n) =
    le_trans_f (h.falls (2 * n + 2) (2 * suc n + 1) (omega arith)) (le_add_left_f (upper_sum t n -ᶠ t (2 * n + 1)) (t (2 * n + 2)))

pub upper_falls : (t : ℕ → Fraction) → IsFalling t → (n : ℕ) → upper_sum t (suc n) ≤ᶠ upper_sum t n
unfolding upper_sum
upper_falls t h n =
    le_trans_f (add_le_f (le_refl_f (upper_sum t n -ᶠ t (2 * n + 1))) (h.falls (2 * n + 1) (2 * n + 2) (omega arith)))
    (sub_add_f (upper_sum t n) (t (2 * n + 1)) (term_le_upper t h n))

pub lower_rises : (t : ℕ → Fraction) → IsFalling t → (n : ℕ) → lower_sum t n ≤ᶠ lower_sum t (suc n)
unfolding upper_sum lower_sum
lower_rises t h n =
    le_sub_f ((upper_sum t n -ᶠ t (2 * n + 1)) +ᶠ t (2 * n + 2)) (t (2 * suc n + 1))
    (add_le_f (le_refl_f (upper_sum t n -ᶠ t (2 * n + 1))) (h.falls (2 * n + 2) (2 * suc n + 1) (omega arith)))

pub lower_le_upper : (t : ℕ → Fraction) (n : ℕ) → lower_sum t n ≤ᶠ upper_sum t n
unfolding lower_sum
lower_le_upper t n = sub_le_self_f (upper_sum t n) (t (2 * n + 1))

-- the width
pub upper_le_lower : (t : ℕ → Fraction) (n : ℕ) → upper_sum t n ≤ᶠ (lower_sum t n +ᶠ t (2 * n + 1))
unfolding lower_sum
upper_le_lower t n = le_sub_add_f (upper_sum t n) (t (2 * n + 1))

pub upper_falls_to : (t : ℕ → Fraction) → IsFalling t → (n : ℕ) → upper_sum t n ≤ᶠ upper_sum t 0
upper_falls_to t h zero = le_refl_f (upper_sum t 0)
upper_falls_to t h (suc n) = le_trans_f (upper_falls t h n) (upper_falls_to t h n)

pub lower_rises_from : (t : ℕ → Fraction) → IsFalling t → (n : ℕ) → lower_sum t 0 ≤ᶠ lower_sum t n
lower_rises_from t h zero = le_refl_f (lower_sum t 0)
lower_rises_from t h (suc n) = le_trans_f (lower_rises_from t h n) (lower_rises t h n)

-- ---- two series, pair by pair

-- p + a - b grows where p does and a - b does
pub pair_step : (p q a b c d : Fraction) → p ≤ᶠ q → (a +ᶠ d) ≤ᶠ (c +ᶠ b) → ((p +ᶠ a) -ᶠ b) ≤ᶠ ((q +ᶠ c) -ᶠ d)
pair_step p q a b c d g h =
    let left : ((p +ᶠ a) +ᶠ d) ≤ᶠ (q +ᶠ (c +ᶠ b)) = le_trans_f (add_right_f p a d) (add_le_f g h) in
    let right : (q +ᶠ (c +ᶠ b)) ≤ᶠ ((((q +ᶠ c) -ᶠ d) +ᶠ b) +ᶠ d) =
    le_trans_f (add_left_f q c b) (le_trans_f (add_le_f (le_sub_add_f (q +ᶠ c) d) (le_refl_f b)) (add_swap_f ((q +ᶠ c) -ᶠ d) d b)) in
    sub_le_f (p +ᶠ a) b (add_cancel_f (p +ᶠ a) (((q +ᶠ c) -ᶠ d) +ᶠ b) d (le_trans_f left right))

pair_first : (a b c d : Fraction) → (a +ᶠ d) ≤ᶠ (c +ᶠ b) → (a -ᶠ b) ≤ᶠ (c -ᶠ d)
pair_first a b c d h =
    sub_le_f a b (add_cancel_f a ((c -ᶠ d) +ᶠ b) d
    (le_trans_f h (le_trans_f (add_le_f (le_sub_add_f c d) (le_refl_f b)) (add_swap_f (c -ᶠ d) d b))))

-- p - a + b is at most q - c + d where nothing is cut on the left
pub pair_step_down : (p q a b c d : Fraction) → a ≤ᶠ p → p ≤ᶠ q → (c +ᶠ b) ≤ᶠ (a +ᶠ d) → ((p -ᶠ a) +ᶠ b) ≤ᶠ ((q -ᶠ c) +ᶠ d)
pair_step_down p q a b c d uncut g h =
    let left : ((((p -ᶠ a) +ᶠ b) +ᶠ c) +ᶠ a) ≤ᶠ (p +ᶠ (c +ᶠ b)) =
    le_trans_f (add_swap_f ((p -ᶠ a) +ᶠ b) c a)
    (le_trans_f (add_le_f (le_trans_f (add_swap_f (p -ᶠ a) b a) (add_le_f (sub_add_f p a uncut) (le_refl_f b))) (le_refl_f c))
    (le_trans_f (add_right_f p b c) (add_le_f (le_refl_f p) (add_comm_f b c)))) in
    let right : (q +ᶠ (a +ᶠ d)) ≤ᶠ ((((q -ᶠ c) +ᶠ d) +ᶠ c) +ᶠ a) =
    le_trans_f (add_le_f (le_refl_f q) (add_comm_f a d))
    (le_trans_f (add_left_f q d a)
    (add_le_f (le_trans_f (add_le_f (le_sub_add_f q c) (le_refl_f d)) (add_swap_f (q -ᶠ c) c d)) (le_refl_f a))) in
    add_cancel_f ((p -ᶠ a) +ᶠ b) ((q -ᶠ c) +ᶠ d) c
    (add_cancel_f (((p -ᶠ a) +ᶠ b) +ᶠ c) (((q -ᶠ c) +ᶠ d) +ᶠ c) a (le_trans_f left (le_trans_f (add_le_f g h) right)))

-- the pairs (0, 1), (2, 3), .. of t are at least those of s, and so are its terms
pub record IsRisingInPairs (s t : ℕ → Fraction) : Type 0 where
  pub terms : (k : ℕ) → s k ≤ᶠ t k
  pub pairs : (j k : ℕ) → j ≡ 2 * k + 1 → (s (2 * k) +ᶠ t j) ≤ᶠ (t (2 * k) +ᶠ s j)

pub lower_grows : (s t : ℕ → Fraction) → IsRisingInPairs s t → (n : ℕ) → lower_sum s n ≤ᶠ lower_sum t n
unfolding upper_sum lower_sum
lower_grows s t h zero = pair_first (s 0) (s 1) (t 0) (t 1) (h.pairs 1 0 refl)
lower_grows s t h (suc n) = pair_next s t n (2 * n + 2) (2 * suc n + 1) (lower_grows s t h n) (pair_at s t h (2 * n + 2) (suc n) (2 * suc n + 1) (omega arith) refl)
  where
    pair_at : (s t : ℕ → Fraction) → IsRisingInPairs s t → (i k j : ℕ) → i ≡ 2 * k → j ≡ 2 * k + 1 → (s i +ᶠ t j) ≤ᶠ (t i +ᶠ s j)
    pair_at s t h i k j e f = rw e (h.pairs j k f)

    pair_next : (s t : ℕ → Fraction) (n i j : ℕ) → lower_sum s n ≤ᶠ lower_sum t n → (s i +ᶠ t j) ≤ᶠ (t i +ᶠ s j)
        → ((lower_sum s n +ᶠ s i) -ᶠ s j) ≤ᶠ ((lower_sum t n +ᶠ t i) -ᶠ t j)
    pair_next s t n i j g h = pair_step (lower_sum s n) (lower_sum t n) (s i) (s j) (t i) (t j) g h

pub upper_grows : (s t : ℕ → Fraction) → IsRisingInPairs s t → (n : ℕ) → upper_sum s n ≤ᶠ upper_sum t n
unfolding upper_sum lower_sum
upper_grows s t h zero = h.terms 0
upper_grows s t h (suc n) = add_le_f (lower_grows s t h n) (h.terms (2 * n + 2))

-- the same start, and the pairs (1, 2), (3, 4), .. of t at least those of s
pub record IsSinkingInPairs (s t : ℕ → Fraction) : Type 0 where
  pub start : t 0 ≤ᶠ s 0
  pub terms : (k : ℕ) → s k ≤ᶠ t k
  pub pairs : (n : ℕ) → (s (2 * n + 1) +ᶠ t (2 * n + 2)) ≤ᶠ (t (2 * n + 1) +ᶠ s (2 * n + 2))

pub upper_sinks : (s t : ℕ → Fraction) → IsFalling t → IsSinkingInPairs s t → (n : ℕ) → upper_sum t n ≤ᶠ upper_sum s n
unfolding upper_sum
upper_sinks s t f h zero = h.start
upper_sinks s t f h (suc n) =
    pair_step_down (upper_sum t n) (upper_sum s n) (t (2 * n + 1)) (t (2 * n + 2)) (s (2 * n + 1)) (s (2 * n + 2))
    (term_le_upper t f n) (upper_sinks s t f h n) (h.pairs n)

pub lower_sinks : (s t : ℕ → Fraction) → IsFalling t → IsSinkingInPairs s t → (n : ℕ) → lower_sum t n ≤ᶠ lower_sum s n
unfolding lower_sum
lower_sinks s t f h n = sub_mono_f (upper_sinks s t f h n) (h.terms (2 * n + 1))

-- the same terms
pub upper_sum_same : (s t : ℕ → Fraction) → ((k : ℕ) → s k ≡ t k) → (n : ℕ) → upper_sum s n ≡ upper_sum t n
unfolding upper_sum
upper_sum_same s t h zero = h 0
upper_sum_same s t h (suc n) = rw (upper_sum_same s t h n, h (2 * n + 1), h (2 * n + 2)) refl
