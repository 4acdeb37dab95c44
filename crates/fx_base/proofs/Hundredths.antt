-- Ticks in hundredths and thousandths, rounded outward, against the exact values.
use Rattle.std.proofs.Common.{ℕ, ◌*◌, arith, lit<}
use Rattle.fx_base.specs.Fraction.{◌≤ᶠ◌, ◌+ᶠ◌, ratio}
use Rattle.fx_base.specs.Rounded.{hundredths_below, hundredths_above, thousandths_below, thousandths_above}
use Rattle.fx_base.specs.Units.{ticks}
use Rattle.fx_base.proofs.Ratios.{ratio_num, ratio_den, ratio_le, le_ratio}
use Rattle.fx_base.proofs.Rounding.{ceil_above, ceil_below}

pub hundredths_under : (t : ℕ) → ratio (hundredths_below t) 100 ≤ᶠ ticks t
unfolding ticks
hundredths_under t = ratio_le (hundredths_below t) 100 (ticks t) (lit< tt) (omega arith)

pub hundredths_over : (t : ℕ) → ticks t ≤ᶠ ratio (hundredths_above t) 100
unfolding ticks
hundredths_over t = let up = ceil_above (t * 100) 68719476736 (lit< tt) in le_ratio (hundredths_above t) 100 (ticks t) (lit< tt) (omega arith)

-- each is within a hundredth
pub hundredths_under_near : (t : ℕ) → ticks t ≤ᶠ (ratio (hundredths_below t) 100 +ᶠ ratio 1 100)
unfolding ticks ◌+ᶠ◌
hundredths_under_near t = record {
  cross = rw (ratio_num (hundredths_below t) 100 (lit< tt), ratio_den (hundredths_below t) 100 (lit< tt), ratio_num 1 100 (lit< tt), ratio_den 1 100 (lit< tt)) (omega arith);
}

pub hundredths_over_near : (t : ℕ) → ratio (hundredths_above t) 100 ≤ᶠ (ticks t +ᶠ ratio 1 100)
unfolding ticks ◌+ᶠ◌
hundredths_over_near t =
    let near = ceil_below (t * 100) 68719476736 (lit< tt) in
    ratio_le (hundredths_above t) 100 (ticks t +ᶠ ratio 1 100) (lit< tt) (rw (ratio_num 1 100 (lit< tt), ratio_den 1 100 (lit< tt)) (omega arith))

pub thousandths_under : (t : ℕ) → ratio (thousandths_below t) 1000 ≤ᶠ ticks t
unfolding ticks
thousandths_under t = ratio_le (thousandths_below t) 1000 (ticks t) (lit< tt) (omega arith)

pub thousandths_over : (t : ℕ) → ticks t ≤ᶠ ratio (thousandths_above t) 1000
unfolding ticks
thousandths_over t = let up = ceil_above (t * 1000) 68719476736 (lit< tt) in le_ratio (thousandths_above t) 1000 (ticks t) (lit< tt) (omega arith)

pub thousandths_over_near : (t : ℕ) → ratio (thousandths_above t) 1000 ≤ᶠ (ticks t +ᶠ ratio 1 1000)
unfolding ticks ◌+ᶠ◌
thousandths_over_near t =
    let near = ceil_below (t * 1000) 68719476736 (lit< tt) in
    ratio_le (thousandths_above t) 1000 (ticks t +ᶠ ratio 1 1000) (lit< tt) (rw (ratio_num 1 1000 (lit< tt), ratio_den 1 1000 (lit< tt)) (omega arith))
