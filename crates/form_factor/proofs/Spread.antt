-- A coefficient changes no faster than pi.
use Rattle.std.proofs.Common.{ℕ, ◌<◌, ◌≤◌, arith, lit<}
use Rattle.fx_base.specs.Fraction.{Fraction, ◌≤ᶠ◌, ratio, whole, ◌+ᶠ◌, ◌*ᶠ◌, ◌/ᶠ◌}
use Rattle.fx_base.proofs.Order.{le_refl_f, le_trans_f, add_le_f, mul_le_f, le_add_f, le_add_left_f, mul_add_right_f, mul_add_f, one_mul_f, mul_left_f, mul_swap_f, mul_comm_f, add_mul_right_f, add_swap_f, le_one_mul_f}
use Rattle.fx_base.proofs.Ratios.{ratio_le, le_over_mul, over_mul_le, over_below}
use Rattle.form_factor.specs.Coefficient.{kernel}
use Rattle.form_factor.specs.Laws.{KernelSpreads}
use Rattle.form_factor.proofs.Kernel.{under_positive}

-- what the area is divided by rises by at most w r
under_rises : (p q w R A : Fraction) → q ≤ᶠ (p +ᶠ w) → (q *ᶠ R +ᶠ A) ≤ᶠ ((p *ᶠ R +ᶠ A) +ᶠ w *ᶠ R)
under_rises p q w R A h =
    le_trans_f (add_le_f (le_trans_f (mul_le_f h (le_refl_f R)) (mul_add_right_f p w R)) (le_refl_f A)) (add_swap_f (p *ᶠ R) (w *ᶠ R) A)

-- the share x of q R + A that A is, times R, is at most A
share_small : (q x R A : Fraction) → whole 1 ≤ᶠ q → (x *ᶠ (q *ᶠ R +ᶠ A)) ≤ᶠ A → (x *ᶠ R) ≤ᶠ A
share_small q x R A one h =
    le_trans_f (mul_le_f (le_refl_f x) (le_trans_f (le_one_mul_f R) (le_trans_f (mul_le_f one (le_refl_f R)) (le_add_f (q *ᶠ R) A)))) h

-- so the share falls by at most w
share_falls : (p q w x R A : Fraction) → whole 1 ≤ᶠ q → q ≤ᶠ (p +ᶠ w) → A ≤ᶠ (x *ᶠ (q *ᶠ R +ᶠ A)) → (x *ᶠ (q *ᶠ R +ᶠ A)) ≤ᶠ A
    → A ≤ᶠ ((x +ᶠ w) *ᶠ (p *ᶠ R +ᶠ A))
share_falls p q w x R A one h above below =
    let B = p *ᶠ R +ᶠ A in
    let moved : (x *ᶠ (w *ᶠ R)) ≤ᶠ (w *ᶠ B) =
    le_trans_f (mul_left_f x w R) (le_trans_f (mul_swap_f x w R) (le_trans_f (mul_le_f (le_trans_f (share_small q x R A one below) (le_add_left_f (p *ᶠ R) A)) (le_refl_f w)) (mul_comm_f B w))) in
    le_trans_f above (le_trans_f (mul_le_f (le_refl_f x) (under_rises p q w R A h))
    (le_trans_f (mul_add_f x B (w *ᶠ R)) (le_trans_f (add_le_f (le_refl_f (x *ᶠ B)) moved) (add_mul_right_f x w B))))

part_of_one : (reflect fronts r : ℕ) → reflect ≤ 1000 → fronts ≤ r → 0 < r → (ratio reflect 1000 *ᶠ ratio fronts r) ≤ᶠ whole 1
unfolding whole
part_of_one reflect fronts r dull near apart =
    le_trans_f (mul_le_f (ratio_le reflect 1000 (whole 1) (lit< tt) (omega arith)) (ratio_le fronts r (whole 1) apart (omega arith))) (one_mul_f (whole 1))

pub spreads : KernelSpreads
unfolding kernel
spreads reflect fronts r area p q w dull near apart some one h =
    let part = ratio reflect 1000 *ᶠ ratio fronts r in
    let B = p *ᶠ whole r +ᶠ whole area in
    let C = q *ᶠ whole r +ᶠ whole area in
    let x = whole area /ᶠ C in
    let falls : (whole area /ᶠ B) ≤ᶠ (x +ᶠ w) =
    over_below (whole area) B (x +ᶠ w) (under_positive p r area some)
    (share_falls p q w x (whole r) (whole area) one h (le_over_mul (whole area) C (under_positive q r area some)) (over_mul_le (whole area) C (under_positive q r area some))) in
    le_trans_f (mul_le_f (le_refl_f part) falls)
    (le_trans_f (mul_add_f part x w) (add_le_f (le_refl_f (part *ᶠ x)) (le_trans_f (mul_le_f (part_of_one reflect fronts r dull near apart) (le_refl_f w)) (one_mul_f w))))
