-- The sums of the program at a task point against the exact value there: each product of ticks is rounded by less than a tick.
use Rattle.std.proofs.Common.{ℕ, ◌+◌, ◌*◌, ◌^◌, ◌<◌, ◌≤◌, arith}
use Rattle.fx_base.specs.Fraction.{Fraction, ◌≤ᶠ◌, ◌+ᶠ◌, ◌*ᶠ◌, whole, sum_to}
use Rattle.fx_base.specs.Units.{ticks}
use Rattle.fx_base.proofs.Order.{le_refl_f, le_trans_f, add_le_f, add_left_f, mul_le_f}
use Rattle.fx_base.proofs.Sums.{sum_to_le, ticks_split, ticks_join}
use Rattle.interval_system.specs.Equations.{value_by}
use Rattle.interval_system.specs.Whole.{total}
use Rattle.fx_base.specs.Rounded.{down_to, up_to}
use Rattle.scene_system.proofs.Rows.{ticks_total_below, ticks_total_above, sum_to_more}
use Rattle.fx_base.proofs.Shares.{share_down, share_up, share_down_near, share_up_near}

-- ---- products

-- ---- the lower sum

pub lower_sum_below : (n e : ℕ) (d : Fraction) (w x : ℕ → ℕ) (k h : ℕ → Fraction) → ticks e ≤ᶠ d
    → ((j : ℕ) → j < n → ticks (w j) ≤ᶠ k j) → ((j : ℕ) → j < n → ticks (x j) ≤ᶠ h j)
    → ticks (e + total n (λ j. down_to (2 ^ 36) (w j * x j))) ≤ᶠ value_by n d k h
unfolding value_by
lower_sum_below n e d w x k h light weights patches =
    le_trans_f (ticks_split e (total n (λ j. down_to (2 ^ 36) (w j * x j))))
    (add_le_f light
    (ticks_total_below n (λ j. down_to (2 ^ 36) (w j * x j)) (λ j. k j *ᶠ h j)
    (λ j l. le_trans_f (share_down (w j) (x j)) (mul_le_f (weights j l) (patches j l)))))

pub lower_sum_near : (n e : ℕ) (d : Fraction) (w x : ℕ → ℕ) (k h : ℕ → Fraction) → d ≤ᶠ ticks e
    → ((j : ℕ) → j < n → k j ≤ᶠ ticks (w j)) → ((j : ℕ) → j < n → h j ≤ᶠ ticks (x j))
    → value_by n d k h ≤ᶠ (ticks (e + total n (λ j. down_to (2 ^ 36) (w j * x j))) +ᶠ (whole n *ᶠ ticks 1))
unfolding value_by
lower_sum_near n e d w x k h light weights patches =
    let down : ℕ → ℕ = λ j. down_to (2 ^ 36) (w j * x j) in
    let rest : Fraction = whole n *ᶠ ticks 1 in
    let sent : sum_to n (λ j. k j *ᶠ h j) ≤ᶠ (ticks (total n down) +ᶠ rest) =
    le_trans_f
    (sum_to_le n (λ j. k j *ᶠ h j) (λ j. ticks (down j) +ᶠ ticks 1)
    (λ j l. le_trans_f (mul_le_f (weights j l) (patches j l)) (share_down_near (w j) (x j))))
    (le_trans_f (sum_to_more n (ticks 1) (λ j. ticks (down j)))
    (add_le_f (ticks_total_above n down (λ j. ticks (down j)) (λ j l. le_refl_f (ticks (down j)))) (le_refl_f rest))) in
    le_trans_f (add_le_f light sent)
    (le_trans_f (add_left_f (ticks e) (ticks (total n down)) rest) (add_le_f (ticks_join e (total n down)) (le_refl_f rest)))

-- ---- the upper sum

pub upper_sum_above : (n e : ℕ) (d : Fraction) (w x : ℕ → ℕ) (k h : ℕ → Fraction) → d ≤ᶠ ticks e
    → ((j : ℕ) → j < n → k j ≤ᶠ ticks (w j)) → ((j : ℕ) → j < n → h j ≤ᶠ ticks (x j))
    → value_by n d k h ≤ᶠ ticks (e + total n (λ j. up_to (2 ^ 36) (w j * x j)))
unfolding value_by
upper_sum_above n e d w x k h light weights patches =
    le_trans_f
    (add_le_f light
    (ticks_total_above n (λ j. up_to (2 ^ 36) (w j * x j)) (λ j. k j *ᶠ h j)
    (λ j l. le_trans_f (mul_le_f (weights j l) (patches j l)) (share_up (w j) (x j)))))
    (ticks_join e (total n (λ j. up_to (2 ^ 36) (w j * x j))))

pub upper_sum_near : (n e : ℕ) (d : Fraction) (w x : ℕ → ℕ) (k h : ℕ → Fraction) → ticks e ≤ᶠ d
    → ((j : ℕ) → j < n → ticks (w j) ≤ᶠ k j) → ((j : ℕ) → j < n → ticks (x j) ≤ᶠ h j)
    → ticks (e + total n (λ j. up_to (2 ^ 36) (w j * x j))) ≤ᶠ (value_by n d k h +ᶠ (whole n *ᶠ ticks 1))
unfolding value_by
upper_sum_near n e d w x k h light weights patches =
    let up : ℕ → ℕ = λ j. up_to (2 ^ 36) (w j * x j) in
    let rest : Fraction = whole n *ᶠ ticks 1 in
    let sent : ticks (total n up) ≤ᶠ (sum_to n (λ j. k j *ᶠ h j) +ᶠ rest) =
    le_trans_f
    (ticks_total_below n up (λ j. (k j *ᶠ h j) +ᶠ ticks 1)
    (λ j l. le_trans_f (share_up_near (w j) (x j)) (add_le_f (mul_le_f (weights j l) (patches j l)) (le_refl_f (ticks 1)))))
    (sum_to_more n (ticks 1) (λ j. k j *ᶠ h j)) in
    le_trans_f (ticks_split e (total n up))
    (le_trans_f (add_le_f light sent) (add_left_f d (sum_to n (λ j. k j *ᶠ h j)) rest))

-- ---- what is rounded

pub rounding_most : (n : ℕ) → n ≤ 2048 → (whole n *ᶠ ticks 1) ≤ᶠ ticks 2048
unfolding whole ticks ◌*ᶠ◌
rounding_most n few = record { cross = omega arith }

-- ---- exact values rise with what they are made of

pub value_rises : (n : ℕ) (d e : Fraction) (k m h i : ℕ → Fraction) → d ≤ᶠ e
    → ((j : ℕ) → j < n → k j ≤ᶠ m j) → ((j : ℕ) → j < n → h j ≤ᶠ i j) → value_by n d k h ≤ᶠ value_by n e m i
unfolding value_by
value_rises n d e k m h i light weights patches =
    add_le_f light (sum_to_le n (λ j. k j *ᶠ h j) (λ j. m j *ᶠ i j) (λ j l. mul_le_f (weights j l) (patches j l)))
