-- The mean grows with the values, so that the average of a grid whose values are in order is in order.
use Rattle.std.proofs.Common.{ℕ, ◌<◌, ◌≡◌, Bool, true, false, if◌then◌else◌, refl}
use Rattle.fx_base.specs.Fraction.{Fraction, ◌≤ᶠ◌, whole}
use Rattle.fx_base.specs.Interval.{InOrder}
use Rattle.fx_base.proofs.Order.{le_refl_f}
use Rattle.fx_base.proofs.Ratios.{over_le}
use Rattle.fx_base.proofs.Sums.{sum_to_le}
use Rattle.interval_system.specs.Values.{Grid, open_count, open_sum, mean, average}
use Rattle.scene_system.proofs.Means.{whole_positive}

term_le : (b : Bool) (x y : Fraction) → (b ≡ false → x ≤ᶠ y) → (if b then whole 0 else x) ≤ᶠ (if b then whole 0 else y)
term_le true x y h = le_refl_f (whole 0)
term_le false x y h = h refl

pub mean_le : (covered : ℕ → Bool) (v w : ℕ → Fraction) (n : ℕ) → 0 < open_count covered n
    → ((g : ℕ) → g < n → covered g ≡ false → v g ≤ᶠ w g) → mean covered v n ≤ᶠ mean covered w n
unfolding mean open_sum
mean_le covered v w n some h =
    over_le (whole_positive (open_count covered n) some)
    (sum_to_le n (λ g. if covered g then whole 0 else v g) (λ g. if covered g then whole 0 else w g) (λ g l. term_le (covered g) (v g) (w g) (h g l)))
    (le_refl_f (whole (open_count covered n)))

pub average_order : (s : Grid) → 0 < open_count s.covered s.points → ((g : ℕ) → g < s.points → s.covered g ≡ false → InOrder (s.value g)) → InOrder (average s)
unfolding average
average_order s some h = mean_le s.covered (λ g. (s.value g).lo) (λ g. (s.value g).hi) s.points some h
