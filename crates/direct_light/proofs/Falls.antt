-- The light of a lamp's point in ticks against its exact value: at every depth the two meet, and the ticks lie in the loose form.
use Rattle.std.proofs.Common.{ℕ, zero, suc, ◌+◌, ◌-◌, ◌*◌, ◌^◌, ◌<◌, ◌≤◌, arith}
use Rattle.std.proofs.Math.Nat.{mul-le-mul_left, mul-pos, mul-sub, one-le-pow, lt_of_mul-lt-mul_left}
use Rattle.fx_base.specs.Fraction.{Fraction, ◌≤ᶠ◌, ◌+ᶠ◌, ◌-ᶠ◌, ◌*ᶠ◌, ◌/ᶠ◌, ratio, whole, half_power}
use Rattle.fx_base.specs.Interval.{Interval, Meets, LiesIn}
use Rattle.fx_base.specs.Units.{ticks, ticks_between}
use Rattle.fx_base.specs.Root.{halved, root}
use Rattle.fx_base.specs.Search.{whole_root}
use Rattle.fx_base.proofs.SearchLaws.{whole_root_is}
use Rattle.fx_base.proofs.Order.{le_refl_f, le_trans_f, add_le_f, sub_le_f, mul_le_f}
use Rattle.fx_base.proofs.Ratios.{over_le, over_below, le_over, positive_above, ratio_num, ratio_den}
use Rattle.fx_base.proofs.RootLaws.{root_above_ticks, root_below_ticks}
use Rattle.fx_base.proofs.Sums.{ticks_positive}
use Rattle.direct_light.specs.Shares.{falloff, fallen, loosened}

-- ---- falloff as one quotient: intensity times m a 4,000, by r s times the distance

product_positive : (r : ℕ) (d : Fraction) → 0 < r → 0 < d.num → 0 < (whole r *ᶠ d).num
unfolding whole ◌*ᶠ◌
product_positive r d p q = mul-pos p q

whole_positive : (s : ℕ) → 0 < s → 0 < (whole s).num
unfolding whole
whole_positive s p = p

kept_below : (i : Fraction) (m a : ℕ) → (i *ᶠ ratio m 1000 *ᶠ whole (a * 4000000)) ≤ᶠ (i *ᶠ whole (m * a * 4000))
unfolding ratio whole ◌*ᶠ◌
kept_below i m a = record { cross = omega arith }

kept_above : (i : Fraction) (m a : ℕ) → (i *ᶠ whole (m * a * 4000)) ≤ᶠ (i *ᶠ ratio m 1000 *ᶠ whole (a * 4000000))
unfolding ratio whole ◌*ᶠ◌
kept_above i m a = record { cross = omega arith }

divisors_split : (y d : Fraction) (r s : ℕ) → (y *ᶠ (whole (r * s) *ᶠ d)) ≤ᶠ (y *ᶠ whole s *ᶠ (whole r *ᶠ d))
unfolding whole ◌*ᶠ◌
divisors_split y d r s = record { cross = omega arith }

divisors_join : (y d : Fraction) (r s : ℕ) → (y *ᶠ whole s *ᶠ (whole r *ᶠ d)) ≤ᶠ (y *ᶠ (whole (r * s) *ᶠ d))
unfolding whole ◌*ᶠ◌
divisors_join y d r s = record { cross = omega arith }

pub falloff_below : (m s a r : ℕ) (i d y : Fraction) → 0 < s → 0 < r → 0 < d.num → (i *ᶠ whole (m * a * 4000)) ≤ᶠ (y *ᶠ (whole (r * s) *ᶠ d)) → falloff m s a r i d ≤ᶠ y
unfolding falloff
falloff_below m s a r i d y o p q h =
    over_below (i *ᶠ ratio m 1000 *ᶠ whole (a * 4000000) /ᶠ (whole r *ᶠ d)) (whole s) y (whole_positive s o)
    (over_below (i *ᶠ ratio m 1000 *ᶠ whole (a * 4000000)) (whole r *ᶠ d) (y *ᶠ whole s) (product_positive r d p q)
    (le_trans_f (kept_below i m a) (le_trans_f h (divisors_split y d r s))))

pub above_falloff : (m s a r : ℕ) (i d y : Fraction) → 0 < s → 0 < r → 0 < d.num → (y *ᶠ (whole (r * s) *ᶠ d)) ≤ᶠ (i *ᶠ whole (m * a * 4000)) → y ≤ᶠ falloff m s a r i d
unfolding falloff
above_falloff m s a r i d y o p q h =
    le_over (i *ᶠ ratio m 1000 *ᶠ whole (a * 4000000) /ᶠ (whole r *ᶠ d)) (whole s) y (whole_positive s o)
    (le_over (i *ᶠ ratio m 1000 *ᶠ whole (a * 4000000)) (whole r *ᶠ d) (y *ᶠ whole s) (product_positive r d p q)
    (le_trans_f (divisors_join y d r s) (le_trans_f h (kept_above i m a))))

-- it grows with the intensity, and falls with the distance
pub falloff_le : (m s a r : ℕ) (i j d e : Fraction) → 0 < s → 0 < r → 0 < e.num → i ≤ᶠ j → e ≤ᶠ d → falloff m s a r i d ≤ᶠ falloff m s a r j e
unfolding falloff
falloff_le m s a r i j d e o p q h g =
    over_le (whole_positive s o)
    (over_le (product_positive r e p q) (mul_le_f (mul_le_f h (le_refl_f (ratio m 1000))) (le_refl_f (whole (a * 4000000)))) (mul_le_f (le_refl_f (whole r)) g))
    (le_refl_f (whole s))

-- ---- two quotients in a row, rounded one after the other: c w / u gives a (or b), and a g / h gives q

pub low_exact : (g c w u h a q : ℕ) → a * u ≤ c * w → q * h ≤ a * g → q * (u * h) ≤ c * w * g
low_exact g c w u h a q e f = omega (arith, mul-le-mul_left g e, mul-le-mul_left u f)

pub low_near : (g c w u h a q : ℕ) → c * w ≤ a * u + u → a * g ≤ q * h + h → g ≤ h → c * w * g ≤ (q + 2) * (u * h)
low_near g c w u h a q e f l = omega (arith, mul-le-mul_left g e, mul-le-mul_left u f, mul-le-mul_left u l)

pub high_exact : (g c w u k b q : ℕ) → c * w ≤ b * u → b * g ≤ q * k → c * w * g ≤ q * (u * k)
high_exact g c w u k b q e f = omega (arith, mul-le-mul_left g e, mul-le-mul_left u f)

less_two : (x m y : ℕ) → x * m ≤ y + 2 * m → (x - 2) * m ≤ y
less_two x m y f = omega (arith, f, mul-sub m x 2)

pub high_near : (g c w u k b q : ℕ) → b * u ≤ c * w + u → q * k ≤ b * g + k → g ≤ k → (q - 2) * (u * k) ≤ c * w * g
high_near g c w u k b q e f l =
    less_two q (u * k) (c * w * g) (omega (arith, mul-le-mul_left g e, mul-le-mul_left u f, mul-le-mul_left u l))

-- ---- against the exact value at depth n

-- by cross products
low_cross : (c w u h q : ℕ) → q * (u * h) ≤ c * w * 68719476736 → (ticks q *ᶠ (whole u *ᶠ ticks h)) ≤ᶠ (ticks c *ᶠ whole w)
unfolding ticks whole ◌*ᶠ◌
low_cross c w u h q f = record { cross = omega (arith, f) }

high_cross : (c w u k q : ℕ) → c * w * 68719476736 ≤ q * (u * k) → (ticks c *ᶠ whole w) ≤ᶠ (ticks q *ᶠ (whole u *ᶠ ticks k))
unfolding ticks whole ◌*ᶠ◌
high_cross c w u k q f = record { cross = omega (arith, f) }

-- the lower end q is at most the value for each intensity from c on at each distance up to h
pub low_meets : (m s a r c h q : ℕ) (i d : Fraction) → 0 < s → 0 < r → 0 < d.num → ticks c ≤ᶠ i → d ≤ᶠ ticks h
    → q * (r * s * h) ≤ c * (m * a * 4000) * 68719476736 → ticks q ≤ᶠ falloff m s a r i d
low_meets m s a r c h q i d o p g bright below f =
    above_falloff m s a r i d (ticks q) o p g
    (le_trans_f (mul_le_f (le_refl_f (ticks q)) (mul_le_f (le_refl_f (whole (r * s))) below))
    (le_trans_f (low_cross c (m * a * 4000) (r * s) h q f) (mul_le_f bright (le_refl_f (whole (m * a * 4000))))))

-- and the upper end q at least the value for each intensity up to c at each distance from k on
pub high_meets : (m s a r c k q : ℕ) (i d : Fraction) → 0 < s → 0 < r → 0 < k → i ≤ᶠ ticks c → ticks k ≤ᶠ d
    → c * (m * a * 4000) * 68719476736 ≤ q * (r * s * k) → falloff m s a r i d ≤ᶠ ticks q
high_meets m s a r c k q i d o p g dim above f =
    falloff_below m s a r i d (ticks q) o p (positive_above (ticks_positive k g) above)
    (le_trans_f (mul_le_f dim (le_refl_f (whole (m * a * 4000))))
    (le_trans_f (high_cross c (m * a * 4000) (r * s) k q f) (mul_le_f (le_refl_f (ticks q)) (mul_le_f (le_refl_f (whole (r * s))) above))))

-- ---- against the loose form

-- the factor between two neighbouring distances is within 2^-24 of one
least_factor : (h k q : ℕ) → h ≤ k + 1 → 68719476736 ≤ k → (ratio (q * h) (68719476736 * k) *ᶠ ratio 16777215 16777216) ≤ᶠ ticks q
unfolding ◌*ᶠ◌ ticks
least_factor h k q near big = record {
  cross = rw (ratio_num (q * h) (68719476736 * k) (omega arith), ratio_den (q * h) (68719476736 * k) (omega arith), ratio_num 16777215 16777216 (omega arith), ratio_den 16777215 16777216 (omega arith))
      (let e : h * 16777215 ≤ k * 16777216 = omega arith in omega (arith, mul-le-mul_left q e));
}

greatest_factor : (h k q : ℕ) → k ≤ h → h ≤ k + 1 → 68719476736 ≤ k → ticks q ≤ᶠ (ratio (q * k) (68719476736 * h) *ᶠ ratio 16777217 16777216)
unfolding ◌*ᶠ◌ ticks
greatest_factor h k q order near big = record {
  cross = rw (ratio_num (q * k) (68719476736 * h) (omega arith), ratio_den (q * k) (68719476736 * h) (omega arith), ratio_num 16777217 16777216 (omega arith), ratio_den 16777217 16777216 (omega arith))
      (let e : h * 16777216 ≤ k * 16777217 = omega arith in omega (arith, mul-le-mul_left q e));
}

-- q h / (2^36 k), against the light at the distance k
loose_low_cross : (c w u h k q : ℕ) → 0 < k → c * w * 68719476736 ≤ q * (u * h)
    → (ticks c *ᶠ whole w) ≤ᶠ (ratio (q * h) (68719476736 * k) *ᶠ (whole u *ᶠ ticks k))
unfolding ticks whole ◌*ᶠ◌
loose_low_cross c w u h k q p f = record {
  cross = rw (ratio_num (q * h) (68719476736 * k) (omega arith), ratio_den (q * h) (68719476736 * k) (omega arith)) (omega (arith, mul-le-mul_left k f));
}

loose_high_cross : (c w u h k q : ℕ) → 0 < h → q * (u * k) ≤ c * w * 68719476736
    → (ratio (q * k) (68719476736 * h) *ᶠ (whole u *ᶠ ticks h)) ≤ᶠ (ticks c *ᶠ whole w)
unfolding ticks whole ◌*ᶠ◌
loose_high_cross c w u h k q p f = record {
  cross = rw (ratio_num (q * k) (68719476736 * h) (omega arith), ratio_den (q * k) (68719476736 * h) (omega arith)) (omega (arith, mul-le-mul_left h f));
}

two_ticks : (q : ℕ) → ticks (q + 2) ≤ᶠ (ticks q +ᶠ half_power 20)
unfolding ticks half_power ◌+ᶠ◌
two_ticks q = record { cross = omega arith }

two_ticks_less : (q : ℕ) → ticks q ≤ᶠ (ticks (q - 2) +ᶠ half_power 20)
unfolding ticks half_power ◌+ᶠ◌
two_ticks_less q = record { cross = omega arith }

-- the lower end q is at least the loose value for each intensity up to c at each distance from k on
pub low_near_loose : (m s a r c h k q : ℕ) (i d : Fraction) → 0 < s → 0 < r → h ≤ k + 1 → 68719476736 ≤ k → ticks k ≤ᶠ d → i ≤ᶠ ticks c
    → c * (m * a * 4000) * 68719476736 ≤ (q + 2) * (r * s * h)
    → (falloff m s a r i d *ᶠ ratio 16777215 16777216 -ᶠ half_power 20) ≤ᶠ ticks q
low_near_loose m s a r c h k q i d o p near big above dim f =
    let z : 0 < k = omega arith in
    let most : falloff m s a r i d ≤ᶠ ratio ((q + 2) * h) (68719476736 * k) =
    le_trans_f (falloff_le m s a r i (ticks c) d (ticks k) o p (ticks_positive k z) dim above)
    (falloff_below m s a r (ticks c) (ticks k) (ratio ((q + 2) * h) (68719476736 * k)) o p (ticks_positive k z)
    (loose_low_cross c (m * a * 4000) (r * s) h k (q + 2) z f)) in
    sub_le_f (falloff m s a r i d *ᶠ ratio 16777215 16777216) (half_power 20)
    (le_trans_f (mul_le_f most (le_refl_f (ratio 16777215 16777216))) (le_trans_f (least_factor h k (q + 2) near big) (two_ticks q)))

-- the upper end q is at most the loose value for each intensity from c on at each distance up to h
pub high_near_loose : (m s a r c h k q : ℕ) (i d : Fraction) → 0 < s → 0 < r → k ≤ h → h ≤ k + 1 → 68719476736 ≤ k → 0 < d.num → d ≤ᶠ ticks h → ticks c ≤ᶠ i
    → (q - 2) * (r * s * k) ≤ c * (m * a * 4000) * 68719476736
    → ticks q ≤ᶠ (falloff m s a r i d *ᶠ ratio 16777217 16777216 +ᶠ half_power 20)
high_near_loose m s a r c h k q i d o p order near big g below bright f =
    let z : 0 < h = omega arith in
    let least : ratio ((q - 2) * k) (68719476736 * h) ≤ᶠ falloff m s a r i d =
    le_trans_f (above_falloff m s a r (ticks c) (ticks h) (ratio ((q - 2) * k) (68719476736 * h)) o p (ticks_positive h z)
    (loose_high_cross c (m * a * 4000) (r * s) h k (q - 2) z f))
    (falloff_le m s a r (ticks c) i (ticks h) d o p g bright below) in
    le_trans_f (two_ticks_less q)
    (add_le_f (le_trans_f (greatest_factor h k (q - 2) order near big) (mul_le_f least (le_refl_f (ratio 16777217 16777216)))) (le_refl_f (half_power 20)))

-- ---- the whole share

-- the light q to t, as it is made of the intensity c to e: c w / u and e w / u rounded to x and y, and these by the root's ends h and k
pub record IsMade (c e w u r h k x y q t : ℕ) : Type 0 where
  pub root_below : k * k ≤ r * 4 ^ 36
  pub root_above : r * 4 ^ 36 ≤ h * h
  pub order : k ≤ h
  pub near : h ≤ k + 1
  pub big : 68719476736 ≤ k
  pub first_down : x * u ≤ c * w
  pub first_down_near : c * w ≤ x * u + u
  pub then_down : q * h ≤ x * 68719476736
  pub then_down_near : x * 68719476736 ≤ q * h + h
  pub first_up : e * w ≤ y * u
  pub first_up_near : y * u < e * w + u
  pub then_up : y * 68719476736 ≤ t * k
  pub then_up_near : t * k < y * 68719476736 + k

some_root : (m k : ℕ) → 0 < m → m < (k + 1) * (k + 1) → 0 < k
some_root m zero p h = absurd (omega (arith, h))
some_root m (suc k) p h = omega arith

pub root_low_positive : (n r : ℕ) → 0 < r → 0 < (root n r).lo.num
unfolding root halved
root_low_positive n r p = some_root (r * 4 ^ n) (whole_root (r * 4 ^ n)) (mul-pos p (one-le-pow n 4 (omega arith))) (whole_root_is (r * 4 ^ n)).next

pub made_meets : (m s a r c e h k x y q t : ℕ) → 0 < s → 0 < r → IsMade c e (m * a * 4000) (r * s) r h k x y q t → (n : ℕ) (i : Interval)
    → Meets (ticks_between c e) i → Meets (ticks_between q t) (fallen n m s a r i)
made_meets m s a r c e h k x y q t o p z n i meets = record {
  above = low_meets m s a r c h q i.hi (root n r).lo o p (root_low_positive n r p) meets.above (root_below_ticks r h n z.root_above)
      (low_exact 68719476736 c (m * a * 4000) (r * s) h x q z.first_down z.then_down);
  below = high_meets m s a r e k t i.lo (root n r).hi o p (let g = z.big in omega arith) meets.below (root_above_ticks r k n z.root_below)
      (high_exact 68719476736 e (m * a * 4000) (r * s) k y t z.first_up z.then_up);
}

pub made_near : (m s a r c e h k x y q t : ℕ) → 0 < s → 0 < r → IsMade c e (m * a * 4000) (r * s) r h k x y q t → (n : ℕ) (i : Interval)
    → LiesIn (ticks_between c e) i → LiesIn (ticks_between q t) (loosened (fallen n m s a r i))
unfolding loosened
made_near m s a r c e h k x y q t o p z n i within = record {
  lower = low_near_loose m s a r c h k q i.lo (root n r).hi o p z.near z.big (root_above_ticks r k n z.root_below) within.lower
      (low_near 68719476736 c (m * a * 4000) (r * s) h x q z.first_down_near z.then_down_near (let g = z.big in let l = z.order in omega arith));
  upper = high_near_loose m s a r e h k t i.hi (root n r).lo o p z.order z.near z.big (root_low_positive n r p) (root_below_ticks r h n z.root_above) within.upper
      (high_near 68719476736 e (m * a * 4000) (r * s) k y t (let g = z.first_up_near in omega arith) (let g = z.then_up_near in omega arith) z.big);
}

-- ---- how great it is

-- 4,000,000 times the intensity at most, at half a millimetre, and what two roundings add, by the number of parts
first_most : (e w r s y b : ℕ) → 0 < r → w ≤ b * r → y * (r * s) < e * w + r * s → y * s < e * b + s
first_most e w r s y b p l f = lt_of_mul-lt-mul_left r (omega (arith, f, mul-le-mul_left e l))

then_most : (g k s y t z : ℕ) → 0 < s → g ≤ k → t * k < y * g + k → y * s < z + s → t * s < z + 2 * s
then_most g k s y t z o l f h =
    lt_of_mul-lt-mul_left k (omega (arith, mul-le-mul_left s (let j : t * k + 1 ≤ y * g + k = omega arith in j), mul-le-mul_left g (let j : y * s ≤ z + s = omega arith in j), mul-le-mul_left (z + s) l))

pub made_most : (m s a r c e h k x y q t : ℕ) → 0 < s → 0 < r → m ≤ 1000 → a ≤ r → IsMade c e (m * a * 4000) (r * s) r h k x y q t → t * s ≤ e * 4000000 + 2 * s
made_most m s a r c e h k x y q t o p kept near z =
    let w : m * a * 4000 ≤ 4000000 * r = omega (arith, mul-le-mul_left a kept, near) in
    let first : y * s < e * 4000000 + s = first_most e (m * a * 4000) r s y 4000000 p w z.first_up_near in
    let then : t * s < e * 4000000 + 2 * s = then_most 68719476736 k s y t (e * 4000000) o z.big z.then_up_near first in
    omega arith
