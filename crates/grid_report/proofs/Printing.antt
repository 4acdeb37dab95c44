-- Printed ends against the ticks that they stand for.
use Rattle.std.proofs.Common.{ℕ, ◌*◌, ◌/◌, ◌<◌, ◌≤◌, arith}
use Rattle.std.proofs.Math.Nat.{div-mul-le_self, lt-div-mul-add}
use Rattle.std.proofs.lemmas.Grind.{div_ceil_times}
use Rattle.std.specs.Int.{div_ceil}
use Rattle.fx_base.specs.Fraction.{Fraction, ◌≤ᶠ◌, ◌+ᶠ◌, ratio}
use Rattle.fx_base.specs.Interval.{Interval, Meets, LiesIn, outward}
use Rattle.fx_base.specs.Units.{ticks}
use Rattle.fx_base.proofs.Order.{le_refl_f, le_trans_f, add_le_f, add_right_f, add_swap_f, sub_le_f}
use Rattle.fx_base.proofs.Ratios.{ratio_le, le_ratio, ratio_num, ratio_den}
use Rattle.report_form.specs.Spelled.{said}
use Rattle.grid_report.specs.Reports.{in_cents}

-- ---- hundredths

pub cents_below : (t : ℕ) → ratio (t * 100 / 68719476736) 100 ≤ᶠ ticks t
unfolding ticks
cents_below t = ratio_le (t * 100 / 68719476736) 100 (ticks t) (omega arith) (let h = div-mul-le_self (t * 100) 68719476736 in omega arith)

pub below_cents : (t : ℕ) → ticks t ≤ᶠ ratio (div_ceil (t * 100) 68719476736) 100
unfolding ticks
below_cents t = le_ratio (div_ceil (t * 100) 68719476736) 100 (ticks t) (omega arith) (let h = (div_ceil_times (t * 100) 68719476736 (omega arith)).0 in omega arith)

pub cents_near : (t : ℕ) → ticks t ≤ᶠ (ratio (t * 100 / 68719476736) 100 +ᶠ ratio 1 100)
unfolding ticks ◌+ᶠ◌
cents_near t = record {
  cross = rw (ratio_num (t * 100 / 68719476736) 100 (omega arith), ratio_den (t * 100 / 68719476736) 100 (omega arith), ratio_num 1 100 (omega arith), ratio_den 1 100 (omega arith))
      (let z : 0 < 68719476736 = omega arith in let h = lt-div-mul-add {a = t * 100} z in omega arith);
}

pub near_cents : (t : ℕ) → ratio (div_ceil (t * 100) 68719476736) 100 ≤ᶠ (ticks t +ᶠ ratio 1 100)
unfolding ticks ◌+ᶠ◌
near_cents t = record {
  cross = rw (ratio_num (div_ceil (t * 100) 68719476736) 100 (omega arith), ratio_den (div_ceil (t * 100) 68719476736) 100 (omega arith), ratio_num 1 100 (omega arith), ratio_den 1 100 (omega arith))
      (let h = (div_ceil_times (t * 100) 68719476736 (omega arith)).1 in omega arith);
}

-- ---- a printed interval against the interval of its ticks

pub printed_meets : (low high : ℕ) (v : Interval) → Meets (record { lo = ticks low; hi = ticks high }) v → Meets (said 100 (in_cents low high)) v
printed_meets low high v m = record {
  above = le_trans_f (cents_below low) m.above;
  below = le_trans_f m.below (below_cents high);
}

cent_small : (w : ℕ) → w ≤ 2049 → (ratio 1 100 +ᶠ ticks w) ≤ᶠ ratio 12 1000
unfolding ratio ticks ◌+ᶠ◌
cent_small w h = record { cross = omega (arith, h) }

up_to_twelve : (w : ℕ) (a b c : Fraction) → w ≤ 2049 → a ≤ᶠ (b +ᶠ ticks w) → b ≤ᶠ (c +ᶠ ratio 1 100) → a ≤ᶠ (c +ᶠ ratio 12 1000)
up_to_twelve w a b c few g h =
    le_trans_f g (le_trans_f (add_le_f h (le_refl_f (ticks w))) (le_trans_f (add_right_f c (ratio 1 100) (ticks w)) (add_le_f (le_refl_f c) (cent_small w few))))

up_to_other : (w : ℕ) (h : Fraction) (t : ℕ) → w ≤ 2049 → ticks t ≤ᶠ (h +ᶠ ticks w) → ratio (div_ceil (t * 100) 68719476736) 100 ≤ᶠ (h +ᶠ ratio 12 1000)
up_to_other w h t few g = up_to_twelve w (ratio (div_ceil (t * 100) 68719476736) 100) (h +ᶠ ratio 1 100) h few
    (le_trans_f (near_cents t) (le_trans_f (add_le_f g (le_refl_f (ratio 1 100))) (add_swap_f h (ticks w) (ratio 1 100))))
    (le_refl_f (h +ᶠ ratio 1 100))

-- ends that are up to 2,049 ticks outside an interval are printed up to 0.012 outside
pub printed_near : (w low high : ℕ) (v : Interval) → w ≤ 2049 → v.lo ≤ᶠ (ticks low +ᶠ ticks w) → ticks high ≤ᶠ (v.hi +ᶠ ticks w)
    → LiesIn (said 100 (in_cents low high)) (outward (ratio 12 1000) v)
printed_near w low high v few below above = record {
  lower = sub_le_f v.lo (ratio 12 1000) (up_to_twelve w v.lo (ticks low) (ratio (low * 100 / 68719476736) 100) few below (cents_near low));
  upper = up_to_other w v.hi high few above;
}
