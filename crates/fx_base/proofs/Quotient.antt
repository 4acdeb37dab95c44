-- A quotient of numbers that change a little changes little.
use Rattle.std.proofs.Common.{◌*◌, ◌<◌, arith}
use Rattle.std.proofs.Math.Nat.{mul-le-mul_left}
use Rattle.fx_base.specs.Fraction.{Fraction, ◌≤ᶠ◌, ◌+ᶠ◌, ◌*ᶠ◌, ◌/ᶠ◌, whole, half_power, lesser}
use Rattle.fx_base.proofs.Order.{le_refl_f, le_trans_f, add_le_f, le_add_f, add_right_f, sub_le_f, sub_back_f, mul_le_f, mul_add_f, mul_cancel_f, add_mul_right_f, one_mul_f}
use Rattle.fx_base.proofs.Ratios.{le_over_mul, le_over_back, lesser_left, lesser_right, le_lesser}

-- twice e, by 1 ≤ 2 b, is at most (4 e) b
twice_within : (e b : Fraction) → whole 1 ≤ᶠ (whole 2 *ᶠ b) → (e +ᶠ e) ≤ᶠ ((whole 4 *ᶠ e) *ᶠ b)
unfolding whole ◌+ᶠ◌ ◌*ᶠ◌
twice_within e b h = let g = h.cross in
    record { cross = omega (arith, mul-le-mul_left (2 * e.num * (e.den * e.den)) g) }

pub quotient_near : (u a b a' b' e : Fraction) → 0 < b'.num → u ≤ᶠ whole 1 → (u *ᶠ b) ≤ᶠ a → a ≤ᶠ (a' +ᶠ e)
    → b' ≤ᶠ (b +ᶠ e) → whole 1 ≤ᶠ (whole 2 *ᶠ b') → u ≤ᶠ ((a' /ᶠ b') +ᶠ (whole 4 *ᶠ e))
quotient_near u a b a' b' e p most under near_a near_b half =
    let one : (u *ᶠ b') ≤ᶠ ((u *ᶠ b) +ᶠ (u *ᶠ e)) = le_trans_f (mul_le_f (le_refl_f u) near_b) (mul_add_f u b e) in
    let two : ((u *ᶠ b) +ᶠ (u *ᶠ e)) ≤ᶠ ((a' +ᶠ e) +ᶠ e) =
    add_le_f (le_trans_f under near_a) (le_trans_f (mul_le_f most (le_refl_f e)) (one_mul_f e)) in
    let three : ((a' +ᶠ e) +ᶠ e) ≤ᶠ (((a' /ᶠ b') *ᶠ b') +ᶠ ((whole 4 *ᶠ e) *ᶠ b')) =
    le_trans_f (add_right_f a' e e) (add_le_f (le_over_mul a' b' p) (twice_within e b' half)) in
    mul_cancel_f u ((a' /ᶠ b') +ᶠ (whole 4 *ᶠ e)) b' p
    (le_trans_f one (le_trans_f two (le_trans_f three (add_mul_right_f (a' /ᶠ b') (whole 4 *ᶠ e) b'))))

-- at most 1 and at most the quotient, each with 4 e more
pub lesser_near : (u q c : Fraction) → u ≤ᶠ whole 1 → u ≤ᶠ (q +ᶠ c) → u ≤ᶠ (lesser (whole 1) q +ᶠ c)
lesser_near u q c one near =
    sub_back_f u c (le_lesser (whole 1) q (sub_le_f u c (le_trans_f one (le_add_f (whole 1) c))) (sub_le_f u c near))

kept_near : (a b a' b' e : Fraction) → 0 < b.num → 0 < b'.num → a ≤ᶠ (a' +ᶠ e) → b' ≤ᶠ (b +ᶠ e) → whole 1 ≤ᶠ (whole 2 *ᶠ b')
    → lesser (whole 1) (a /ᶠ b) ≤ᶠ (lesser (whole 1) (a' /ᶠ b') +ᶠ (whole 4 *ᶠ e))
kept_near a b a' b' e p q near_a near_b half =
    let one = lesser_left (whole 1) (a /ᶠ b) in
    lesser_near (lesser (whole 1) (a /ᶠ b)) (a' /ᶠ b') (whole 4 *ᶠ e) one
    (quotient_near (lesser (whole 1) (a /ᶠ b)) a b a' b' e q one (le_over_back a b p (lesser_right (whole 1) (a /ᶠ b))) near_a near_b half)

at_least_half : (b : Fraction) → whole 1 ≤ᶠ (b +ᶠ half_power 20) → whole 1 ≤ᶠ (whole 2 *ᶠ b)
unfolding whole half_power ◌+ᶠ◌ ◌*ᶠ◌
at_least_half b h = let g = h.cross in record { cross = omega arith }

-- b is at least 1 and changes by at most 2^-20
half_left : (b b' e : Fraction) → whole 1 ≤ᶠ b → e ≤ᶠ half_power 20 → b ≤ᶠ (b' +ᶠ e) → whole 1 ≤ᶠ (whole 2 *ᶠ b')
half_left b b' e one small near = at_least_half b' (le_trans_f one (le_trans_f near (add_le_f (le_refl_f b') small)))

half_positive : (b : Fraction) → whole 1 ≤ᶠ (whole 2 *ᶠ b) → 0 < b.num
unfolding whole ◌*ᶠ◌
half_positive b h = let g = h.cross in let p = b.positive in omega arith

twice_one : (b : Fraction) → whole 1 ≤ᶠ b → whole 1 ≤ᶠ (whole 2 *ᶠ b)
unfolding whole ◌*ᶠ◌
twice_one b h = let g = h.cross in record { cross = omega arith }

-- the lesser of 1 and a / b changes by at most 4 e
pub quotient_steady : (a b a' b' e : Fraction) → whole 1 ≤ᶠ b → e ≤ᶠ half_power 20
    → a ≤ᶠ (a' +ᶠ e) → a' ≤ᶠ (a +ᶠ e) → b ≤ᶠ (b' +ᶠ e) → b' ≤ᶠ (b +ᶠ e)
    → (lesser (whole 1) (a /ᶠ b) ≤ᶠ (lesser (whole 1) (a' /ᶠ b') +ᶠ (whole 4 *ᶠ e)))
    × (lesser (whole 1) (a' /ᶠ b') ≤ᶠ (lesser (whole 1) (a /ᶠ b) +ᶠ (whole 4 *ᶠ e)))
quotient_steady a b a' b' e one small ga ga' gb gb' =
    let half = half_left b b' e one small gb in
    let p = half_positive b (twice_one b one) in
    let q = half_positive b' half in
    (kept_near a b a' b' e p q ga gb' half, kept_near a' b' a b e q p ga' gb (twice_one b one))
