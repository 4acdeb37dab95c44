-- A printed uniformity against the quotients that it stands for: the least value a by the average b in ticks, in thousandths n.
use Rattle.std.proofs.Common.{ℕ, zero, suc, ◌+◌, ◌-◌, ◌*◌, ◌/◌, ◌<◌, ◌≤◌, ◌≡◌, ◌⊎◌, min, arith, inl, inr}
use Rattle.std.specs.Int.{div_ceil}
use Rattle.std.proofs.Math.Nat.{div-mul-le_self, lt-div-mul-add, mul-le-mul_left, le_of_mul-le-mul_left}
use Rattle.std.proofs.lemmas.Bool.{cases_lt}
use Rattle.std.proofs.lemmas.Grind.{div_ceil_times}
use Rattle.fx_base.specs.Fraction.{Fraction, ◌≤ᶠ◌, ◌+ᶠ◌, ◌-ᶠ◌, ◌*ᶠ◌, ◌/ᶠ◌, ratio, whole, lesser}
use Rattle.fx_base.specs.Units.{ticks}
use Rattle.fx_base.proofs.Order.{le_refl_f, le_trans_f, add_le_f, add_right_f, add_swap_f, mul_le_f, le_one_mul_f, sub_le_f}
use Rattle.fx_base.proofs.Quotient.{quotient_near, lesser_near}
use Rattle.fx_base.proofs.Ratios.{le_lesser, le_over, over_below, over_mul_le, ratio_num, ratio_den, ratio_le_ratio, positive_above}
use Rattle.fx_base.proofs.Sums.{ticks_positive}

-- ---- what the two thousandths are to the ticks

-- n is the quotient a / b in thousandths, rounded down and at most 1000
pub record IsDown (a b n : ℕ) : Type 0 where
  pub under : n * b ≤ a * 1000
  pub over : a * 1000 ≤ (n + 1) * b
  pub most : n ≤ 1000

-- the same rounded up
pub record IsUp (a b n : ℕ) : Type 0 where
  pub over : (n ≡ 1000) ⊎ (a * 1000 ≤ n * b)
  pub under : n * b ≤ a * 1000 + b
  pub most : n ≤ 1000

least_of : (x y : ℕ) → (min x y ≡ x) ⊎ ((min x y ≡ y) × (y ≤ x))
least_of x y = elim (cases_lt x y) [ inl l ↦ inl (omega arith) | inr g ↦ inr (omega arith, g) ]

-- millionths rounded down, and then thousandths of these, are thousandths rounded down
down_at : (a b q n : ℕ) → q * b ≤ a * 1000000 → a * 1000000 ≤ (q + 1) * b → q ≤ 1000000 → n * 1000 ≤ q → q < n * 1000 + 1000 → IsDown a b n
down_at a b q n f g most h k = record {
  under = omega (arith, f, mul-le-mul_left b h);
  over = (let l : q + 1 ≤ n * 1000 + 1000 = omega (arith, k) in omega (arith, g, mul-le-mul_left b l));
  most = omega (arith, h, most);
}

down_of : (a b q : ℕ) → q * b ≤ a * 1000000 → a * 1000000 ≤ (q + 1) * b → q ≤ 1000000 → IsDown a b (q / 1000)
down_of a b q f g most = down_at a b q (q / 1000) f g most (div-mul-le_self q 1000) (let z : 0 < 1000 = omega arith in lt-div-mul-add {a = q} z)

pub is_down : (a b : ℕ) → 0 < b → a ≤ b → IsDown a b (min (a * 1000000 / b) 1000000 / 1000)
is_down a b p h =
    let f = div-mul-le_self (a * 1000000) b in
    let g = lt-div-mul-add {a = a * 1000000} p in
    let few : a * 1000000 / b ≤ 1000000 = le_of_mul-le-mul_left {k = b} (omega (arith, f, h)) p in
    let small : min (a * 1000000 / b) 1000000 ≡ a * 1000000 / b = omega arith in
    rw small (down_of a b (a * 1000000 / b) f (omega (arith, g)) few)

up_exact : (a b q n : ℕ) → a * 1000000 ≤ q * b → q * b < a * 1000000 + b → q ≤ 1000000 → q ≤ n * 1000 → n * 1000 < q + 1000 → IsUp a b n
up_exact a b q n f g most h k = record {
  over = inr (omega (arith, f, mul-le-mul_left b h));
  under = (let l : n * 1000 ≤ q + 999 = omega (arith, k) in omega (arith, g, mul-le-mul_left b l));
  most = omega (arith, k, most);
}

up_limit : (a b q n : ℕ) → q * b < a * 1000000 + b → 1000000 ≤ q → n ≡ 1000 → IsUp a b n
up_limit a b q n g h e = record { over = inl e; under = rw e (omega (arith, g, mul-le-mul_left b h)); most = omega (arith, e) }

pub is_up : (a b : ℕ) → 0 < b → IsUp a b (div_ceil (min (div_ceil (a * 1000000) b) 1000000) 1000)
is_up a b p =
    let q = div_ceil (a * 1000000) b in
    let f = div_ceil_times (a * 1000000) b p in
    let g = div_ceil_times (min q 1000000) 1000 (omega arith) in
    elim (least_of q 1000000) [
      | inl e ↦ up_exact a b q (div_ceil (min q 1000000) 1000) (f.0) (f.1) (omega (arith, e)) (omega (arith, e, g.0)) (omega (arith, e, g.1))
      | inr e ↦ up_limit a b q (div_ceil (min q 1000000) 1000) (f.1) (e.1) (omega (arith, e.0, g.0, g.1))
    ]

-- ---- meeting

thousand_one : (whole 1 ≤ᶠ ratio 1000 1000) × (ratio 1000 1000 ≤ᶠ whole 1)
unfolding ratio whole
thousand_one = (record { cross = omega arith }, record { cross = omega arith })

down_cross : (a b n : ℕ) → n * b ≤ a * 1000 → (ratio n 1000 *ᶠ ticks b) ≤ᶠ ticks a
unfolding ticks ◌*ᶠ◌
down_cross a b n h = record { cross = rw (ratio_num n 1000 (omega arith), ratio_den n 1000 (omega arith)) (omega (arith, h)) }

up_cross : (a b n : ℕ) → a * 1000 ≤ n * b → ticks a ≤ᶠ (ratio n 1000 *ᶠ ticks b)
unfolding ticks ◌*ᶠ◌
up_cross a b n h = record { cross = rw (ratio_num n 1000 (omega arith), ratio_den n 1000 (omega arith)) (omega (arith, h)) }

-- the lower thousandths are at most the quotient of what is at least a and at most b
pub down_meets : (a b n : ℕ) (l h : Fraction) → IsDown a b n → ticks a ≤ᶠ l → h ≤ᶠ ticks b → 0 < h.num → ratio n 1000 ≤ᶠ lesser (whole 1) (l /ᶠ h)
down_meets a b n l h d above below p =
    le_lesser (whole 1) (l /ᶠ h)
    (le_trans_f (ratio_le_ratio n 1000 1000 1000 (omega arith) (omega arith) (let m = d.most in omega arith)) (thousand_one.1))
    (le_over l h (ratio n 1000) p (le_trans_f (mul_le_f (le_refl_f (ratio n 1000)) below) (le_trans_f (down_cross a b n d.under) above)))

pub down_most : (a b n : ℕ) → IsDown a b n → ratio n 1000 ≤ᶠ whole 1
down_most a b n d = le_trans_f (ratio_le_ratio n 1000 1000 1000 (omega arith) (omega arith) (let m = d.most in omega arith)) (thousand_one.1)

-- the upper thousandths are at least the quotient of what is at most a and at least b
pub up_meets : (a b n : ℕ) (l h : Fraction) → IsUp a b n → l ≤ᶠ ticks a → ticks b ≤ᶠ h → 0 < h.num → l ≤ᶠ h → (l /ᶠ h) ≤ᶠ ratio n 1000
up_meets a b n l h u below above p order = elim u.over [
  | inl e ↦ over_below l h (ratio n 1000) p (rw e (le_trans_f order (le_trans_f (le_one_mul_f h) (mul_le_f (thousand_one.0) (le_refl_f h)))))
  | inr g ↦ over_below l h (ratio n 1000) p (le_trans_f below (le_trans_f (up_cross a b n g) (mul_le_f (le_refl_f (ratio n 1000)) above)))
]

-- ---- nearness: what is divided and the divisor are up to w ticks off

four_times : (w : ℕ) → w ≤ 2049 → (ratio 1 1000 +ᶠ (whole 4 *ᶠ ticks w)) ≤ᶠ ratio 2 1000
unfolding ratio ticks whole ◌+ᶠ◌ ◌*ᶠ◌
four_times w h = record { cross = omega (arith, h) }

one_more : (n : ℕ) → ratio (n + 1) 1000 ≤ᶠ (ratio n 1000 +ᶠ ratio 1 1000)
unfolding ◌+ᶠ◌
one_more n = record { cross = rw (ratio_num (n + 1) 1000 (omega arith), ratio_den (n + 1) 1000 (omega arith), ratio_num n 1000 (omega arith), ratio_den n 1000 (omega arith), ratio_num 1 1000 (omega arith), ratio_den 1 1000 (omega arith)) (omega arith) }

to_two : (w n : ℕ) (x : Fraction) → w ≤ 2049 → x ≤ᶠ (ratio (n + 1) 1000 +ᶠ (whole 4 *ᶠ ticks w)) → x ≤ᶠ (ratio n 1000 +ᶠ ratio 2 1000)
to_two w n x few h = le_trans_f h (le_trans_f (add_le_f (one_more n) (le_refl_f (whole 4 *ᶠ ticks w)))
    (le_trans_f (add_right_f (ratio n 1000) (ratio 1 1000) (whole 4 *ᶠ ticks w)) (add_le_f (le_refl_f (ratio n 1000)) (four_times w few))))

-- the lower thousandths are at most 0.002 below the quotient of l and h
pub down_near : (w a b n : ℕ) (l h : Fraction) → w ≤ 2049 → IsDown a b n → l ≤ᶠ (ticks a +ᶠ ticks w) → ticks b ≤ᶠ (h +ᶠ ticks w) → 0 < h.num → l ≤ᶠ h
    → 0 < b → whole 1 ≤ᶠ (whole 2 *ᶠ ticks b) → ((l /ᶠ h) -ᶠ ratio 2 1000) ≤ᶠ ratio n 1000
down_near w a b n l h few d below near p order pb half =
    let most : (l /ᶠ h) ≤ᶠ whole 1 = over_below l h (whole 1) p (le_trans_f order (le_one_mul_f h)) in
    let steady : (l /ᶠ h) ≤ᶠ ((ticks a /ᶠ ticks b) +ᶠ (whole 4 *ᶠ ticks w)) =
    quotient_near (l /ᶠ h) l h (ticks a) (ticks b) (ticks w) (ticks_positive b pb) most (over_mul_le l h p) below near half in
    let printed : (ticks a /ᶠ ticks b) ≤ᶠ ratio (n + 1) 1000 = over_below (ticks a) (ticks b) (ratio (n + 1) 1000) (ticks_positive b pb) (up_cross a b (n + 1) d.over) in
    sub_le_f (l /ᶠ h) (ratio 2 1000) (to_two w n (l /ᶠ h) few (le_trans_f steady (add_le_f printed (le_refl_f (whole 4 *ᶠ ticks w)))))

one_two : (h : Fraction) → whole 1 ≤ᶠ h → whole 1 ≤ᶠ (whole 2 *ᶠ h)
unfolding whole ◌*ᶠ◌
one_two h o = let g = o.cross in record { cross = omega arith }

one_positive : 0 < (whole 1).num
unfolding whole
one_positive = omega arith

back_one : (n : ℕ) → ratio n 1000 ≤ᶠ (ratio (n - 1) 1000 +ᶠ ratio 1 1000)
back_one n = le_trans_f (ratio_le_ratio n 1000 ((n - 1) + 1) 1000 (omega arith) (omega arith) (omega arith)) (one_more (n - 1))

less_one : (a b n : ℕ) → n * b ≤ a * 1000 + b → (n - 1) * b ≤ a * 1000
less_one a b zero h = omega arith
less_one a b (suc n) h = rw (let e : suc n - 1 ≡ n = omega arith in e) (omega (arith, h))

-- the upper thousandths are at most 0.002 above the quotient of l and h
pub up_near : (w a b n : ℕ) (l h : Fraction) → w ≤ 2049 → IsUp a b n → ticks a ≤ᶠ (l +ᶠ ticks w) → h ≤ᶠ (ticks b +ᶠ ticks w) → whole 1 ≤ᶠ h
    → ratio n 1000 ≤ᶠ (lesser (whole 1) (l /ᶠ h) +ᶠ ratio 2 1000)
up_near w a b n l h few u above near one =
    let p : 0 < h.num = positive_above one_positive one in
    let under : ratio (n - 1) 1000 ≤ᶠ whole 1 = le_trans_f (ratio_le_ratio (n - 1) 1000 1000 1000 (omega arith) (omega arith) (let m = u.most in omega arith)) (thousand_one.1) in
    let steady : ratio (n - 1) 1000 ≤ᶠ ((l /ᶠ h) +ᶠ (whole 4 *ᶠ ticks w)) =
    quotient_near (ratio (n - 1) 1000) (ticks a) (ticks b) l h (ticks w) p under (down_cross a b (n - 1) (less_one a b n u.under)) above near (one_two h one) in
    let kept : ratio (n - 1) 1000 ≤ᶠ (lesser (whole 1) (l /ᶠ h) +ᶠ (whole 4 *ᶠ ticks w)) = lesser_near (ratio (n - 1) 1000) (l /ᶠ h) (whole 4 *ᶠ ticks w) under steady in
    le_trans_f (back_one n) (le_trans_f (add_le_f kept (le_refl_f (ratio 1 1000)))
    (le_trans_f (add_swap_f (lesser (whole 1) (l /ᶠ h)) (whole 4 *ᶠ ticks w) (ratio 1 1000))
    (le_trans_f (add_right_f (lesser (whole 1) (l /ᶠ h)) (ratio 1 1000) (whole 4 *ᶠ ticks w)) (add_le_f (le_refl_f (lesser (whole 1) (l /ᶠ h))) (four_times w few)))))

-- ---- against printed hundredths

-- the least printed lower end by the printed average is at most one thousandth more
pub down_by_ends : (a b n low high : ℕ) → IsDown a b n → low * 68719476736 ≤ a * 100 → b * 100 ≤ high * 68719476736 → 0 < high
    → ratio low high ≤ᶠ (ratio n 1000 +ᶠ ratio 1 1000)
down_by_ends a b n low high d f g p =
    let o = d.over in
    le_trans_f (ratio_le_ratio low high (n + 1) 1000 p (omega arith) (omega (arith, mul-le-mul_left (n + 1) g, f, o))) (one_more n)

ends_cross : (a b m high low : ℕ) → m * b ≤ a * 1000 → a * 100 ≤ high * 68719476736 → low * 68719476736 ≤ b * 100 → m * low ≤ high * 1000
ends_cross a b m high low h f g = omega (arith, mul-le-mul_left m g, h, f)

-- and the printed upper end at most one thousandth more than the least printed upper end by the printed average
pub up_by_ends : (a b n high low : ℕ) → IsUp a b n → a * 100 ≤ high * 68719476736 → low * 68719476736 ≤ b * 100 → 0 < low
    → ratio n 1000 ≤ᶠ (ratio high low +ᶠ ratio 1 1000)
up_by_ends a b n high low u f g p =
    le_trans_f (back_one n) (add_le_f (ratio_le_ratio (n - 1) 1000 high low (omega arith) p (ends_cross a b (n - 1) high low (less_one a b n u.under) f g)) (le_refl_f (ratio 1 1000)))
