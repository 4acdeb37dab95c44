-- The kernel as one quotient, how it falls with pi, and how ticks lie to it.
use Rattle.std.proofs.Common.{ℕ, ◌+◌, ◌*◌, ◌<◌, ◌≤◌, ◌≡◌, arith, lit<}
use Rattle.std.proofs.Math.Nat.{mul-pos}
use Rattle.fx_base.specs.Fraction.{Fraction, ◌≤ᶠ◌, ratio, whole, ◌+ᶠ◌, ◌*ᶠ◌}
use Rattle.fx_base.specs.Units.{ticks}
use Rattle.fx_base.proofs.Order.{le_refl_f, add_le_f, mul_le_f}
use Rattle.fx_base.proofs.Ratios.{ratio_num, ratio_den, over_num, over_den, over_le}
use Rattle.fx_base.proofs.Sums.{ticks_below, ticks_above}
use Rattle.form_factor.specs.Coefficient.{kernel}

pub under_positive : (p : Fraction) (r area : ℕ) → 0 < area → 0 < (p *ᶠ whole r +ᶠ whole area).num
unfolding ◌+ᶠ◌ ◌*ᶠ◌ whole
under_positive p r area h = let g : 0 < area * p.den = mul-pos h p.positive in omega (arith, g)

pub kernel_falls : (reflect fronts r area : ℕ) (p q : Fraction) → 0 < area → p ≤ᶠ q → kernel reflect fronts r area q ≤ᶠ kernel reflect fronts r area p
unfolding kernel
kernel_falls reflect fronts r area p q some h =
    mul_le_f (le_refl_f (ratio reflect 1000 *ᶠ ratio fronts r))
    (over_le (under_positive p r area some) (le_refl_f (whole area)) (add_le_f (mul_le_f h (le_refl_f (whole r))) (le_refl_f (whole area))))

-- ---- with pi in ticks

kernel_num : (reflect fronts r area p : ℕ) → 0 < r → 0 < area → (kernel reflect fronts r area (ticks p)).num ≡ (reflect * fronts) * (area * 68719476736)
unfolding kernel ◌+ᶠ◌ ◌*ᶠ◌ whole ticks
kernel_num reflect fronts r area p some wide =
    rw (ratio_num reflect 1000 (lit< tt), ratio_num fronts r some, over_num (whole area) (ticks p *ᶠ whole r +ᶠ whole area) (under_positive (ticks p) r area wide)) (omega arith)

kernel_den : (reflect fronts r area p : ℕ) → 0 < r → 0 < area → (kernel reflect fronts r area (ticks p)).den ≡ (1000 * r) * (p * r + area * 68719476736)
unfolding kernel ◌+ᶠ◌ ◌*ᶠ◌ whole ticks
kernel_den reflect fronts r area p some wide =
    rw (ratio_den reflect 1000 (lit< tt), ratio_den fronts r some, over_den (whole area) (ticks p *ᶠ whole r +ᶠ whole area) (under_positive (ticks p) r area wide)) (omega arith)

pub ticks_below_kernel : (reflect fronts r area p t : ℕ) → 0 < r → 0 < area
    → t * ((1000 * r) * (p * r + area * 68719476736)) ≤ ((reflect * fronts) * (area * 68719476736)) * 68719476736 → ticks t ≤ᶠ kernel reflect fronts r area (ticks p)
ticks_below_kernel reflect fronts r area p t some wide h =
    ticks_below t (kernel reflect fronts r area (ticks p)) (rw (kernel_num reflect fronts r area p some wide, kernel_den reflect fronts r area p some wide) h)

pub ticks_above_kernel : (reflect fronts r area p t : ℕ) → 0 < r → 0 < area
    → ((reflect * fronts) * (area * 68719476736)) * 68719476736 ≤ t * ((1000 * r) * (p * r + area * 68719476736)) → kernel reflect fronts r area (ticks p) ≤ᶠ ticks t
ticks_above_kernel reflect fronts r area p t some wide h =
    ticks_above t (kernel reflect fronts r area (ticks p)) (rw (kernel_num reflect fronts r area p some wide, kernel_den reflect fronts r area p some wide) h)
