-- Pi's ends in ticks.
use Rattle.std.proofs.Common.{ℕ, ◌*◌, ◌≤◌, ◌≡◌, ℤ}
use Rattle.fx_base.specs.Fraction.{◌≤ᶠ◌}
use Rattle.fx_base.specs.Units.{ticks, natural}
use Rattle.fx_base.proofs.Order.{le_trans_f}
use Rattle.fx_base.proofs.Sums.{whole_ticks, ticks_whole, ticks_back}
use Rattle.series_enclose.specs.Series.{pi}
use Rattle.series_enclose.proofs.PiLaws.{pi_above_three, pi_at_most_four}

pub at_least_three : (t : ℕ) → (pi 0).lo ≤ᶠ ticks t → 3 * 68719476736 ≤ t
at_least_three t h = ticks_back (3 * 68719476736) t (le_trans_f (ticks_whole 3) (le_trans_f (pi_above_three 0) h))

pub at_most_four : (t : ℕ) → ticks t ≤ᶠ (pi 0).hi → t ≤ 4 * 68719476736
at_most_four t h = ticks_back t (4 * 68719476736) (le_trans_f h (le_trans_f (pi_at_most_four 0) (whole_ticks 4)))

-- the same of the numbers that stand for the ends
pub three_at : (t : ℕ) (z h : ℤ) → t ≡ natural z → z ≡ h → (pi 0).lo ≤ᶠ ticks (natural h) → 3 * 68719476736 ≤ t
three_at t z h e k m = rw (e, k) (at_least_three (natural h) m)

pub four_at : (t : ℕ) (z h : ℤ) → t ≡ natural z → z ≡ h → ticks (natural h) ≤ᶠ (pi 0).hi → t ≤ 4 * 68719476736
four_at t z h e k m = rw (e, k) (at_most_four (natural h) m)
