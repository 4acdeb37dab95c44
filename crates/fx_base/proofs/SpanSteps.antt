-- Rounded ends hold the exact results.
use Rattle.std.proofs.Common.{ℕ, zero, suc, neg_ℤ, ◌+◌, ◌*◌, ◌/◌, ◌^◌, ◌<◌, ◌≤◌, ◌≡◌, arith, refl, ℤ, pos, negsuc, ◌+ℤ◌}
use Rattle.std.proofs.Math.Nat.{mul-le-mul_left, zero-lt-suc}
use Rattle.std.proofs.lemmas.Int.{ints}
use Rattle.std.specs.Int.{div_ceil}
use Rattle.fx_base.specs.Fraction.{Fraction, ◌≤ᶠ◌, ◌+ᶠ◌, ◌*ᶠ◌, ◌/ᶠ◌, ratio, whole}
use Rattle.fx_base.specs.Units.{natural, ticks}
use Rattle.fx_base.specs.SpanLaws.{SumHolds, ProductHolds, ScaledHolds, QuotientHolds, FractionHolds, RootHolds}
use Rattle.fx_base.proofs.Order.{le_refl_f, le_trans_f, add_le_f, add_swap_f, add_pairs_f, add_cancel_f, mul_le_f}
use Rattle.fx_base.proofs.Ratios.{ratio_num, ratio_den, ratio_le, le_ratio, over_num, over_den, over_le, positive_above}
use Rattle.fx_base.proofs.Rounding.{floor_below, ceil_above}
use Rattle.fx_base.proofs.Sums.{ticks_le, ticks_split, ticks_join, ticks_positive, ticks_times_low}
use Rattle.fx_base.proofs.SearchLaws.{square_le}
use Rattle.fx_base.proofs.RootLaws.{root_above_ticks, root_below_ticks}

-- ---- quotients rounded to a tick

-- n 2^36 / d rounded to a tick, against n / d
pub ticks_down : (n d : ℕ) → 0 < d → ticks (n * 68719476736 / d) ≤ᶠ ratio n d
unfolding ticks
ticks_down n d p = le_ratio n d (ticks (n * 68719476736 / d)) p (floor_below (n * 68719476736) d)

pub ticks_up : (n d : ℕ) → 0 < d → ratio n d ≤ᶠ ticks (div_ceil (n * 68719476736) d)
unfolding ticks
ticks_up n d p = ratio_le n d (ticks (div_ceil (n * 68719476736) d)) p (ceil_above (n * 68719476736) d p)

-- a product of ticks, rounded up; `ticks_times_low` of `Sums` has it rounded down
pub product_up : (a b : ℕ) → (ticks a *ᶠ ticks b) ≤ᶠ ticks (div_ceil (a * b) 68719476736)
unfolding ticks ◌*ᶠ◌
product_up a b = record { cross = let g = ceil_above (a * b) 68719476736 (zero-lt-suc 68719476735) in omega arith }

-- ticks times num by den

pub scaled_down_f : (a n d : ℕ) → 0 < d → ticks (a * n / d) ≤ᶠ (ticks a *ᶠ ratio n d)
unfolding ticks ◌*ᶠ◌
scaled_down_f a n d p = record {
  cross = rw (ratio_num n d p, ratio_den n d p) (let g = floor_below (a * n) d in omega (arith, mul-le-mul_left 68719476736 g));
}

pub scaled_up_f : (a n d : ℕ) → 0 < d → (ticks a *ᶠ ratio n d) ≤ᶠ ticks (div_ceil (a * n) d)
unfolding ticks ◌*ᶠ◌
scaled_up_f a n d p = record {
  cross = rw (ratio_num n d p, ratio_den n d p) (let g = ceil_above (a * n) d p in omega (arith, mul-le-mul_left 68719476736 g));
}

-- ticks by ticks
pub over_down : (a b : ℕ) → 0 < b → ticks (a * 68719476736 / b) ≤ᶠ (ticks a /ᶠ ticks b)
unfolding ticks
over_down a b p = record {
  cross = rw (over_num (ticks a) (ticks b) p, over_den (ticks a) (ticks b) p) (let g = floor_below (a * 68719476736) b in omega (arith, mul-le-mul_left 68719476736 g));
}

pub over_up : (a b : ℕ) → 0 < b → (ticks a /ᶠ ticks b) ≤ᶠ ticks (div_ceil (a * 68719476736) b)
unfolding ticks
over_up a b p = record {
  cross = rw (over_num (ticks a) (ticks b) p, over_den (ticks a) (ticks b) p) (let g = ceil_above (a * 68719476736) b p in omega (arith, mul-le-mul_left 68719476736 g));
}

-- ---- spans

-- a whole number is what it is above 0 less what it is below
parts : (z : ℤ) → z +ℤ pos (natural (neg_ℤ z)) ≡ pos (natural z)
parts (pos zero) = refl
parts (pos (suc n)) = omega (arith, ints)
parts (negsuc n) = omega (arith, ints)

sum_parts : (a b : ℤ) → natural (a +ℤ b) + (natural (neg_ℤ a) + natural (neg_ℤ b)) ≡ (natural a + natural b) + natural (neg_ℤ (a +ℤ b))
sum_parts a b = omega (arith, ints, parts a, parts b, parts (a +ℤ b))

-- m + w ≤ z + n, where c + n is m + g
shift_below : (m n c g : ℕ) (w z : Fraction) → c + n ≡ m + g → (ticks m +ᶠ w) ≤ᶠ (z +ᶠ ticks n) → (ticks c +ᶠ w) ≤ᶠ (z +ᶠ ticks g)
shift_below m n c g w z e h =
    let same : (ticks c +ᶠ ticks n) ≤ᶠ (ticks m +ᶠ ticks g) = le_trans_f (ticks_join c n) (le_trans_f (ticks_le (c + n) (m + g) (omega (arith, e))) (ticks_split m g)) in
    add_cancel_f (ticks c +ᶠ w) (z +ᶠ ticks g) (ticks n)
    (le_trans_f (add_swap_f (ticks c) w (ticks n)) (le_trans_f (add_le_f same (le_refl_f w))
    (le_trans_f (add_swap_f (ticks m) (ticks g) w) (le_trans_f (add_le_f h (le_refl_f (ticks g))) (add_swap_f z (ticks n) (ticks g))))))

shift_above : (m n c g : ℕ) (w z : Fraction) → c + n ≡ m + g → (z +ᶠ ticks n) ≤ᶠ (ticks m +ᶠ w) → (z +ᶠ ticks g) ≤ᶠ (ticks c +ᶠ w)
shift_above m n c g w z e h =
    let same : (ticks m +ᶠ ticks g) ≤ᶠ (ticks c +ᶠ ticks n) = le_trans_f (ticks_join m g) (le_trans_f (ticks_le (m + g) (c + n) (omega (arith, e))) (ticks_split c n)) in
    add_cancel_f (z +ᶠ ticks g) (ticks c +ᶠ w) (ticks n)
    (le_trans_f (add_swap_f z (ticks g) (ticks n)) (le_trans_f (add_le_f h (le_refl_f (ticks g)))
    (le_trans_f (add_swap_f (ticks m) w (ticks g)) (le_trans_f (add_le_f same (le_refl_f w)) (add_swap_f (ticks c) (ticks n) w)))))

-- a + u ≤ x + e and b + v ≤ y + f, where c + (e + f) is (a + b) + g
sum_below : (a b c e f g : ℕ) (u v x y : Fraction) → c + (e + f) ≡ (a + b) + g → (ticks a +ᶠ u) ≤ᶠ (x +ᶠ ticks e) → (ticks b +ᶠ v) ≤ᶠ (y +ᶠ ticks f)
    → (ticks c +ᶠ (u +ᶠ v)) ≤ᶠ ((x +ᶠ y) +ᶠ ticks g)
sum_below a b c e f g u v x y h i j =
    shift_below (a + b) (e + f) c g (u +ᶠ v) (x +ᶠ y) h
    (le_trans_f (add_le_f (ticks_split a b) (le_refl_f (u +ᶠ v))) (le_trans_f (add_pairs_f (ticks a) (ticks b) u v)
    (le_trans_f (add_le_f i j) (le_trans_f (add_pairs_f x (ticks e) y (ticks f)) (add_le_f (le_refl_f (x +ᶠ y)) (ticks_join e f))))))

sum_above : (a b c e f g : ℕ) (u v x y : Fraction) → c + (e + f) ≡ (a + b) + g → (x +ᶠ ticks e) ≤ᶠ (ticks a +ᶠ u) → (y +ᶠ ticks f) ≤ᶠ (ticks b +ᶠ v)
    → ((x +ᶠ y) +ᶠ ticks g) ≤ᶠ (ticks c +ᶠ (u +ᶠ v))
sum_above a b c e f g u v x y h i j =
    shift_above (a + b) (e + f) c g (u +ᶠ v) (x +ᶠ y) h
    (le_trans_f (add_le_f (le_refl_f (x +ᶠ y)) (ticks_split e f)) (le_trans_f (add_pairs_f x y (ticks e) (ticks f))
    (le_trans_f (add_le_f i j) (le_trans_f (add_pairs_f (ticks a) u (ticks b) v) (add_le_f (ticks_join a b) (le_refl_f (u +ᶠ v)))))))

pub sum_holds : SumHolds
sum_holds a b x y (g, h) (i, j) = (
  record { cross = sum_below (natural a.lo) (natural b.lo) (natural (a.lo +ℤ b.lo)) (natural (neg_ℤ a.lo)) (natural (neg_ℤ b.lo)) (natural (neg_ℤ (a.lo +ℤ b.lo))) x.taken y.taken x.start y.start (sum_parts a.lo b.lo) g.cross i.cross },
  record { cross = sum_above (natural a.hi) (natural b.hi) (natural (a.hi +ℤ b.hi)) (natural (neg_ℤ a.hi)) (natural (neg_ℤ b.hi)) (natural (neg_ℤ (a.hi +ℤ b.hi))) x.taken y.taken x.start y.start (sum_parts a.hi b.hi) h.cross j.cross },
)

pub product_holds : ProductHolds
product_holds a b x y (g, h) (i, j) =
    (le_trans_f (ticks_times_low (natural a.lo) (natural b.lo)) (mul_le_f g i), le_trans_f (mul_le_f h j) (product_up (natural a.hi) (natural b.hi)))

pub scaled_holds : ScaledHolds
scaled_holds a x num den p (g, h) = (
  le_trans_f (scaled_down_f (natural a.lo) num den p) (mul_le_f g (le_refl_f (ratio num den))),
  le_trans_f (mul_le_f h (le_refl_f (ratio num den))) (scaled_up_f (natural a.hi) num den p),
)

pub fraction_holds : FractionHolds
fraction_holds num den p = (ticks_down num den p, ticks_up num den p)

positive_ticks : (t : ℕ) → 0 < (ticks t).num → 0 < t
unfolding ticks
positive_ticks t p = p

pub quotient_holds : QuotientHolds
quotient_holds a b x y p (g, h) (i, j) =
    let low_positive = ticks_positive (natural b.lo) p in
    let y_positive = positive_above low_positive i in
    let high_positive = positive_ticks (natural b.hi) (positive_above y_positive j) in (
      le_trans_f (over_down (natural a.lo) (natural b.hi) high_positive) (over_le y_positive g j),
      le_trans_f (over_le low_positive h i) (over_up (natural a.hi) (natural b.lo) p),
    )

-- ---- roots

root_low_core : (Q k r u D : ℕ) → k * k ≤ r * (Q * Q) → r * (D * D) ≤ u * u → k * D ≤ u * Q
root_low_core Q k r u D g h = square_le (k * D) (u * Q) (omega (arith, mul-le-mul_left (D * D) g, mul-le-mul_left (Q * Q) h))

root_high_core : (Q k r u D : ℕ) → r * (Q * Q) ≤ k * k → u * u ≤ r * (D * D) → u * Q ≤ k * D
root_high_core Q k r u D g h = square_le (u * Q) (k * D) (omega (arith, mul-le-mul_left (D * D) g, mul-le-mul_left (Q * Q) h))

root_low : (k r : ℕ) (x : Fraction) → k * k ≤ r * 4 ^ 36 → whole r ≤ᶠ (x *ᶠ x) → ticks k ≤ᶠ x
unfolding ticks whole ◌*ᶠ◌
root_low k r x g h = let i = h.cross in record { cross = root_low_core 68719476736 k r x.num x.den g (omega arith) }

root_high : (k r : ℕ) (x : Fraction) → r * 4 ^ 36 ≤ k * k → (x *ᶠ x) ≤ᶠ whole r → x ≤ᶠ ticks k
unfolding ticks whole ◌*ᶠ◌
root_high k r x g h = let i = h.cross in record { cross = root_high_core 68719476736 k r x.num x.den g (omega arith) }

pub root_holds : RootHolds
root_holds r low high g h = record {
  members = λ x below above. (root_low low r x g above, root_high high r x h below);
  meets = λ n. record { above = root_above_ticks r low n g; below = root_below_ticks r high n h };
}
