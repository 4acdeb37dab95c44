-- The least of values in ticks against that of fractions at each point.
use Rattle.std.proofs.Common.{ℕ, ◌+◌, ◌<◌, ◌≤◌, ◌≡◌, Bool, false, List, length, sym, subst, ◌∙◌}
use Rattle.std.specs.Prelude.{slice_index_or}
use Rattle.fx_base.specs.Fraction.{Fraction, ◌≤ᶠ◌, ◌+ᶠ◌, ◌-ᶠ◌}
use Rattle.fx_base.specs.Units.{ticks}
use Rattle.fx_base.proofs.Order.{le_trans_f, sub_le_f, sub_back_f}
use Rattle.fx_base.proofs.Sums.{ticks_le}
use Rattle.interval_system.specs.Values.{least}
use Rattle.scene_system.specs.Sums.{open_total}
use Rattle.grid_report.specs.Uniformities.{IsLeast}
use Rattle.scene_system.specs.declared.value.PointValue.{PointValue}
use Rattle.scene_system.proofs.TickMeans.{count_is}
use Rattle.scene_system.proofs.Means.{AreCoveredBy, no_point}
use Rattle.grid_report.proofs.Uniform.{below_least, least_below}

-- ---- the least of values, in ticks

pub least_above : (number : PointValue → ℕ) (vs : List PointValue) (covered : ℕ → Bool) (f : ℕ → Fraction) (a : ℕ) → AreCoveredBy vs covered → 0 < open_total vs → IsLeast number vs a
    → ((g : ℕ) (d : PointValue) → g < length vs → covered g ≡ false → ticks (number (slice_index_or vs g d)) ≤ᶠ f g) → ticks a ≤ᶠ least covered f (length vs)
least_above number vs covered f a same some is h =
    below_least covered f (ticks a) (length vs) (rw (count_is vs covered same) some)
    (λ g l o. le_trans_f (ticks_le a (number (slice_index_or vs g no_point)) (is.below g no_point l (same g no_point l ∙ o))) (h g no_point l o))

pub least_below_ticks : (number : PointValue → ℕ) (vs : List PointValue) (covered : ℕ → Bool) (f : ℕ → Fraction) (a : ℕ) → AreCoveredBy vs covered → IsLeast number vs a
    → ((g : ℕ) (d : PointValue) → g < length vs → covered g ≡ false → f g ≤ᶠ ticks (number (slice_index_or vs g d))) → least covered f (length vs) ≤ᶠ ticks a
least_below_ticks number vs covered f a same is h =
    let w = is.attained no_point in
    let o : covered (w.0) ≡ false = sym (same (w.0) no_point (w.1)) ∙ w.2 in
    let P : ℕ → Type 0 = λ t. f (w.0) ≤ᶠ ticks t in
    le_trans_f (least_below covered f (length vs) (w.0) (w.1) o) (subst P (w.3) (h (w.0) no_point (w.1) o))

-- ---- the same, where each value is up to e off

pub least_near_above : (e : Fraction) (number : PointValue → ℕ) (vs : List PointValue) (covered : ℕ → Bool) (f : ℕ → Fraction) (a : ℕ) → AreCoveredBy vs covered → 0 < open_total vs → IsLeast number vs a
    → ((g : ℕ) (d : PointValue) → g < length vs → covered g ≡ false → ticks (number (slice_index_or vs g d)) ≤ᶠ (f g +ᶠ e)) → ticks a ≤ᶠ (least covered f (length vs) +ᶠ e)
least_near_above e number vs covered f a same some is h =
    sub_back_f (ticks a) e (below_least covered f (ticks a -ᶠ e) (length vs) (rw (count_is vs covered same) some)
    (λ g l o. sub_le_f (ticks a) e (le_trans_f (ticks_le a (number (slice_index_or vs g no_point)) (is.below g no_point l (same g no_point l ∙ o))) (h g no_point l o))))

pub least_near_below : (e : Fraction) (number : PointValue → ℕ) (vs : List PointValue) (covered : ℕ → Bool) (f : ℕ → Fraction) (a : ℕ) → AreCoveredBy vs covered → IsLeast number vs a
    → ((g : ℕ) (d : PointValue) → g < length vs → covered g ≡ false → f g ≤ᶠ (ticks (number (slice_index_or vs g d)) +ᶠ e)) → least covered f (length vs) ≤ᶠ (ticks a +ᶠ e)
least_near_below e number vs covered f a same is h =
    let w = is.attained no_point in
    let o : covered (w.0) ≡ false = sym (same (w.0) no_point (w.1)) ∙ w.2 in
    let P : ℕ → Type 0 = λ t. f (w.0) ≤ᶠ (ticks t +ᶠ e) in
    le_trans_f (least_below covered f (length vs) (w.0) (w.1) o) (subst P (w.3) (h (w.0) no_point (w.1) o))
