-- The uniformity of a grid whose values are in order is in order.
use Rattle.std.proofs.Common.{ℕ, zero, suc, ◌<◌, ◌≡◌, ◌==◌, Bool, true, false, if◌then◌else◌, refl, arith}
use Rattle.std.proofs.lemmas.Bool.Decides.{nat_tests}
use Rattle.fx_base.specs.Fraction.{Fraction, ◌≤ᶠ◌, ◌/ᶠ◌, whole, lesser}
use Rattle.fx_base.specs.Interval.{InOrder}
use Rattle.fx_base.proofs.Order.{le_trans_f, le_one_mul_f}
use Rattle.fx_base.proofs.Ratios.{le_lesser, over_below, over_le, by_nothing}
use Rattle.interval_system.specs.Values.{Grid, open_count, least, average, uniformity}
use Rattle.grid_report.proofs.Uniform.{below_least, least_below, least_below_mean}
use Rattle.scene_system.proofs.MeanOrder.{average_order}

-- ---- quotients, where the divisor may be 0

pub at_test : (b : Bool) (x y a : Fraction) → (b ≡ true → a ≤ᶠ x) → (b ≡ false → a ≤ᶠ y) → a ≤ᶠ (if b then x else y)
at_test true x y a f g = f refl
at_test false x y a f g = g refl

-- ---- the uniformity

least_order : (s : Grid) → 0 < open_count s.covered s.points → ((g : ℕ) → g < s.points → s.covered g ≡ false → InOrder (s.value g))
    → least s.covered (λ g. (s.value g).lo) s.points ≤ᶠ least s.covered (λ g. (s.value g).hi) s.points
least_order s some h = below_least s.covered (λ g. (s.value g).hi) (least s.covered (λ g. (s.value g).lo) s.points) s.points some
    (λ g l o. le_trans_f (least_below s.covered (λ g. (s.value g).lo) s.points g l o) (h g l o))

least_within : (s : Grid) → 0 < open_count s.covered s.points → ((g : ℕ) → g < s.points → s.covered g ≡ false → InOrder (s.value g))
    → least s.covered (λ g. (s.value g).lo) s.points ≤ᶠ (average s).hi
unfolding average
least_within s some h = least_below_mean s.covered (λ g. (s.value g).lo) (λ g. (s.value g).hi) s.points some h

within_one : (l h : Fraction) (n : ℕ) → h.num ≡ n → l ≤ᶠ h → (l /ᶠ h) ≤ᶠ whole 1
within_one l h zero e g = by_nothing l h (whole 1) e
within_one l h (suc n) e g = over_below l h (whole 1) (omega (arith, e)) (le_trans_f g (le_one_mul_f h))

pub uniformity_order : (s : Grid) → 0 < open_count s.covered s.points → ((g : ℕ) → g < s.points → s.covered g ≡ false → InOrder (s.value g)) → InOrder (uniformity s)
unfolding uniformity
uniformity_order s some h =
    let low = least s.covered (λ g. (s.value g).lo) s.points in
    let high = least s.covered (λ g. (s.value g).hi) s.points in
    let one = within_one low (average s).hi (average s).hi.num refl (least_within s some h) in
    at_test ((average s).lo.num == 0) (whole 1) (lesser (whole 1) (high /ᶠ (average s).lo)) (low /ᶠ (average s).hi)
    (λ t. one)
    (λ t. le_lesser (whole 1) (high /ᶠ (average s).lo) one (over_le (grind (arith, nat_tests)) (least_order s some h) (average_order s some h)))
