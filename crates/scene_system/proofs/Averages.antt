-- The average of values in ticks meets that of a grid that the values meet, and is near that of a grid that they are near.
use Rattle.std.proofs.Common.{ℕ, ◌+◌, ◌<◌, ◌≤◌, ◌≡◌, Bool, false, List, length, arith, subst, ap}
use Rattle.std.specs.Prelude.{slice_index_or}
use Rattle.std.proofs.lemmas.List.{get_or_default}
use Rattle.fx_base.specs.Fraction.{Fraction, ◌≤ᶠ◌, ◌+ᶠ◌}
use Rattle.fx_base.specs.Interval.{InOrder, Meets, LiesIn, outward}
use Rattle.fx_base.specs.Units.{ticks, of_span}
use Rattle.fx_base.proofs.Order.{le_trans_f, sub_back_f}
use Rattle.fx_base.proofs.Rounding.{natural-mono}
use Rattle.fx_base.proofs.Sums.{ticks_back, ticks_le}
use Rattle.interval_system.specs.Values.{Grid, average}
use Rattle.scene_system.specs.Sums.{lower_end, upper_end, open_total, average_low, average_high, IsValue}
use Rattle.scene_system.specs.declared.value.PointValue.{PointValue}
use Rattle.scene_system.proofs.Means.{AreCoveredBy, no_point}
use Rattle.scene_system.proofs.TickMeans.{count_is, mean_above, mean_below, mean_near_above, mean_near_below}
use Rattle.scene_system.proofs.MeanOrder.{mean_le}

-- ---- values and a grid

-- the values in ticks meet those of a grid, whose intervals are in order, at the points that aren't covered
pub record AreMeeting (x : Grid) (vs : List PointValue) : Type 0 where
  pub count : x.points ≡ length vs
  pub covered : AreCoveredBy vs x.covered
  pub meets : (g : ℕ) (d : PointValue) → g < length vs → x.covered g ≡ false → Meets (of_span (slice_index_or vs g d).value) (x.value g)
  pub order : (g : ℕ) → g < length vs → InOrder (x.value g)

-- they lie in those of a grid, moved outward by e ticks
pub record AreNear (e : ℕ) (y : Grid) (vs : List PointValue) : Type 0 where
  pub few : e ≤ 2048
  pub count : y.points ≡ length vs
  pub covered : AreCoveredBy vs y.covered
  pub near : (g : ℕ) (d : PointValue) → g < length vs → y.covered g ≡ false → LiesIn (of_span (slice_index_or vs g d).value) (outward (ticks e) (y.value g))
  pub order : (g : ℕ) → g < length vs → InOrder (y.value g)

pub near_low : (e : ℕ) (y : Grid) (vs : List PointValue) → AreNear e y vs → (g : ℕ) (d : PointValue) → g < length vs → y.covered g ≡ false
    → (y.value g).lo ≤ᶠ (ticks (lower_end (slice_index_or vs g d)) +ᶠ ticks e)
near_low e y vs m g d l o = sub_back_f (y.value g).lo (ticks e) (m.near g d l o).lower

pub near_high : (e : ℕ) (y : Grid) (vs : List PointValue) → AreNear e y vs → (g : ℕ) (d : PointValue) → g < length vs → y.covered g ≡ false
    → ticks (upper_end (slice_index_or vs g d)) ≤ᶠ ((y.value g).hi +ᶠ ticks e)
near_high e y vs m g d l o = (m.near g d l o).upper

-- ---- the average

pub average_meets : (x : Grid) (vs : List PointValue) → AreMeeting x vs → 0 < open_total vs → Meets (record { lo = ticks (average_low vs); hi = ticks (average_high vs) }) (average x)
unfolding average
average_meets x vs m some = rw m.count (record {
  above = mean_above vs x.covered (λ g. (x.value g).hi) m.covered some (λ g d l o. (m.meets g d l o).above);
  below = mean_below vs x.covered (λ g. (x.value g).lo) m.covered some (λ g d l o. (m.meets g d l o).below);
})

pub average_near_low : (e : ℕ) (y : Grid) (vs : List PointValue) → AreNear e y vs → 0 < open_total vs → (average y).lo ≤ᶠ (ticks (average_low vs) +ᶠ ticks (e + 1))
unfolding average
average_near_low e y vs m some = rw m.count (mean_near_above e vs y.covered (λ g. (y.value g).lo) m.covered some (near_low e y vs m))

pub average_near_high : (e : ℕ) (y : Grid) (vs : List PointValue) → AreNear e y vs → 0 < open_total vs → ticks (average_high vs) ≤ᶠ ((average y).hi +ᶠ ticks (e + 1))
unfolding average
average_near_high e y vs m some = rw m.count (mean_near_below e vs y.covered (λ g. (y.value g).hi) m.covered some (near_high e y vs m))

-- ---- in order

pub ends_order : (v : PointValue) → IsValue v → lower_end v ≤ upper_end v
ends_order v h = natural-mono v.value.lo v.value.hi h.low h.order

pub same_default : (number : PointValue → ℕ) (vs : List PointValue) (g : ℕ) (d : PointValue) → g < length vs → number (slice_index_or vs g d) ≤ number (slice_index_or vs g no_point)
same_default number vs g d l = omega (arith, ap number (get_or_default vs g d no_point l))

pub default_same : (number : PointValue → ℕ) (vs : List PointValue) (g : ℕ) (d : PointValue) → g < length vs → number (slice_index_or vs g no_point) ≤ number (slice_index_or vs g d)
default_same number vs g d l = omega (arith, ap number (get_or_default vs g d no_point l))

-- the average's lower end is at most its upper end
pub averages_order : (vs : List PointValue) (covered : ℕ → Bool) → AreCoveredBy vs covered → 0 < open_total vs
    → ((g : ℕ) (d : PointValue) → g < length vs → IsValue (slice_index_or vs g d)) → average_low vs ≤ average_high vs
averages_order vs covered same some each =
    let low : ℕ → Fraction = λ g. ticks (lower_end (slice_index_or vs g no_point)) in
    let high : ℕ → Fraction = λ g. ticks (upper_end (slice_index_or vs g no_point)) in
    let one = mean_above vs covered low same some (λ g d l o. ticks_le (lower_end (slice_index_or vs g d)) (lower_end (slice_index_or vs g no_point)) (same_default lower_end vs g d l)) in
    let two = mean_le covered low high (length vs) (rw (count_is vs covered same) some) (λ g l o. ticks_le (lower_end (slice_index_or vs g no_point)) (upper_end (slice_index_or vs g no_point)) (ends_order (slice_index_or vs g no_point) (each g no_point l))) in
    let three = mean_below vs covered high same some (λ g d l o. ticks_le (upper_end (slice_index_or vs g no_point)) (upper_end (slice_index_or vs g d)) (default_same upper_end vs g d l)) in
    ticks_back (average_low vs) (average_high vs) (le_trans_f one (le_trans_f two three))

pub average_order_near : (e : ℕ) (y : Grid) (vs : List PointValue) → AreNear e y vs → 0 < open_total vs → (average y).lo ≤ᶠ (average y).hi
unfolding average
average_order_near e y vs m some = mean_le y.covered (λ g. (y.value g).lo) (λ g. (y.value g).hi) y.points (rw (m.count, count_is vs y.covered m.covered) some) (λ g l o. m.order g (subst (λ z. g < z) m.count l))
