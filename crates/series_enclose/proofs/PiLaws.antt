-- Pi.
use Rattle.std.proofs.Common.{ℕ, ◌≤◌, arith, lit≤}
use Rattle.fx_base.specs.Fraction.{◌≤ᶠ◌, ◌+ᶠ◌, ◌-ᶠ◌, ◌*ᶠ◌, whole, ratio}
use Rattle.fx_base.specs.Interval.{Meets}
use Rattle.fx_base.specs.Nesting.{IsNested}
use Rattle.fx_base.specs.Units.{ticks}
use Rattle.fx_base.proofs.Order.{le_refl_f, le_trans_f, mul_le_f, sub_mono_f}
use Rattle.fx_base.proofs.Near.{one_depth_meets, nested_later}
use Rattle.series_enclose.specs.Series.{upper_sum, lower_sum, power_over, arctan_term, one_fifth, one_of_239, pi}
use Rattle.series_enclose.proofs.Alternating.{IsFalling, upper_falls, lower_rises, lower_le_upper, upper_falls_to, lower_rises_from}
use Rattle.series_enclose.proofs.Terms.{arctan_falls}

pub fifth_falls : IsFalling (arctan_term one_fifth)
unfolding one_fifth ratio whole
fifth_falls = arctan_falls one_fifth (record { cross = lit≤ tt })

pub of_239_falls : IsFalling (arctan_term one_of_239)
unfolding one_of_239 ratio whole
of_239_falls = arctan_falls one_of_239 (record { cross = lit≤ tt })

-- pi's enclosures nest, and their ends are in order
pub pi_nested : IsNested pi
unfolding pi
pi_nested = record {
  nests = λ n. record {
    lower = sub_mono_f (mul_le_f (le_refl_f (whole 16)) (lower_rises (arctan_term one_fifth) fifth_falls n))
        (mul_le_f (le_refl_f (whole 4)) (upper_falls (arctan_term one_of_239) of_239_falls n));
    upper = sub_mono_f (mul_le_f (le_refl_f (whole 16)) (upper_falls (arctan_term one_fifth) fifth_falls n))
        (mul_le_f (le_refl_f (whole 4)) (lower_rises (arctan_term one_of_239) of_239_falls n));
  };
  order = λ n. sub_mono_f (mul_le_f (le_refl_f (whole 16)) (lower_le_upper (arctan_term one_fifth) n))
      (mul_le_f (le_refl_f (whole 4)) (lower_le_upper (arctan_term one_of_239) n));
}

-- what Machin's formula takes away is at most what stands
machin_start : (whole 4 *ᶠ upper_sum (arctan_term one_of_239) 0) ≤ᶠ (whole 16 *ᶠ lower_sum (arctan_term one_fifth) 0)
unfolding ◌-ᶠ◌ ◌*ᶠ◌ whole ratio one_fifth one_of_239 power_over arctan_term upper_sum lower_sum
machin_start = record { cross = lit≤ tt }

pub machin_uncut : (n : ℕ) → (whole 4 *ᶠ upper_sum (arctan_term one_of_239) n) ≤ᶠ (whole 16 *ᶠ lower_sum (arctan_term one_fifth) n)
machin_uncut n =
    le_trans_f (mul_le_f (le_refl_f (whole 4)) (upper_falls_to (arctan_term one_of_239) of_239_falls n))
    (le_trans_f machin_start (mul_le_f (le_refl_f (whole 16)) (lower_rises_from (arctan_term one_fifth) fifth_falls n)))

-- ---- pi in ticks, by depth 4

pub pi_above : ticks 215888603272 ≤ᶠ (pi 4).lo
unfolding ◌+ᶠ◌ ◌-ᶠ◌ ◌*ᶠ◌ whole ratio one_fifth one_of_239 power_over arctan_term upper_sum lower_sum pi ticks
pi_above = record { cross = lit≤ tt }

pub pi_below : (pi 4).hi ≤ᶠ ticks 215888603273
unfolding ◌+ᶠ◌ ◌-ᶠ◌ ◌*ᶠ◌ whole ratio one_fifth one_of_239 power_over arctan_term upper_sum lower_sum pi ticks
pi_below = record { cross = lit≤ tt }

pub pi_meets : (n : ℕ) → Meets (record { lo = ticks 215888603272; hi = ticks 215888603273 }) (pi n)
pi_meets = one_depth_meets pi pi_nested (record { lo = ticks 215888603272; hi = ticks 215888603273 }) 4 4 pi_above pi_below

-- at most 4 at every depth, and at least 3
pi_at_start : (pi 0).hi ≤ᶠ whole 4
unfolding ◌+ᶠ◌ ◌-ᶠ◌ ◌*ᶠ◌ whole ratio one_fifth one_of_239 power_over arctan_term upper_sum lower_sum pi
pi_at_start = record { cross = lit≤ tt }

pi_from_start : whole 3 ≤ᶠ (pi 0).lo
unfolding ◌+ᶠ◌ ◌-ᶠ◌ ◌*ᶠ◌ whole ratio one_fifth one_of_239 power_over arctan_term upper_sum lower_sum pi
pi_from_start = record { cross = lit≤ tt }

pub pi_at_most_four : (n : ℕ) → (pi n).hi ≤ᶠ whole 4
pi_at_most_four n = le_trans_f (nested_later pi pi_nested 0 n (omega arith)).upper pi_at_start

pub pi_above_three : (n : ℕ) → whole 3 ≤ᶠ (pi n).lo
pi_above_three n = le_trans_f pi_from_start (nested_later pi pi_nested 0 n (omega arith)).lower

-- from depth 2 on pi is narrower than 1/2,400,000
pi_two_narrow : (pi 2).hi ≤ᶠ ((pi 2).lo +ᶠ ratio 1 2400000)
unfolding ◌+ᶠ◌ ◌-ᶠ◌ ◌*ᶠ◌ whole ratio one_fifth one_of_239 power_over arctan_term upper_sum lower_sum pi
pi_two_narrow = record { cross = lit≤ tt }

pub pi_narrow : (n : ℕ) → 2 ≤ n → (pi n).hi ≤ᶠ ((pi n).lo +ᶠ ratio 1 2400000)
pi_narrow n h = let later = nested_later pi pi_nested 2 n h in
    le_trans_f later.upper (le_trans_f pi_two_narrow (Rattle.fx_base.proofs.Order.add_le_f later.lower (le_refl_f (ratio 1 2400000))))
