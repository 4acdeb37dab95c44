-- What is printed of the uniformity of values meets the exact one, and is near the loose one.
use Rattle.std.proofs.Common.{ℕ, ◌+◌, ◌<◌, ◌≤◌, ◌≡◌, Bool, false, List, length, arith, subst, ◌==◌}
use Rattle.std.specs.Prelude.{slice_index_or}
use Rattle.std.proofs.lemmas.Bool.Decides.{nat_tests}
use Rattle.fx_base.specs.Fraction.{Fraction, ◌≤ᶠ◌, ◌<ᶠ◌, ◌+ᶠ◌, ◌-ᶠ◌, ◌*ᶠ◌, ◌/ᶠ◌, ratio, whole, lesser}
use Rattle.fx_base.specs.Units.{ticks}
use Rattle.fx_base.proofs.Order.{le_refl_f, le_trans_f, lt_le_trans_f, add_le_f}
use Rattle.fx_base.proofs.Ratios.{positive_above}
use Rattle.fx_base.proofs.Sums.{ticks_back, ticks_le, ticks_positive, some_ticks}
use Rattle.interval_system.specs.Values.{Grid, least, average, uniformity}
use Rattle.scene_system.specs.Sums.{lower_end, upper_end, open_total, average_low, average_high, IsValue}
use Rattle.grid_report.specs.Uniformities.{IsLeast}
use Rattle.scene_system.specs.declared.value.PointValue.{PointValue}
use Rattle.scene_system.proofs.Means.{AreCoveredBy, no_point}
use Rattle.grid_report.proofs.Shares.{IsDown, IsUp, down_meets, down_most, up_meets, down_near, up_near}
use Rattle.scene_system.proofs.TickMeans.{count_is, mean_below}
use Rattle.grid_report.proofs.TickLeasts.{least_above, least_below_ticks, least_near_above, least_near_below}
use Rattle.grid_report.proofs.GridOrder.{at_test}
use Rattle.grid_report.proofs.Uniform.{least_below_mean}
use Rattle.scene_system.proofs.Averages.{AreMeeting, AreNear, near_low, near_high, average_meets, average_near_low, average_near_high, average_order_near, ends_order, same_default, default_same}

-- ---- it meets the uniformity

-- the least lower end is at most the average's upper end
pub least_within_average : (vs : List PointValue) (covered : ℕ → Bool) (a : ℕ) → AreCoveredBy vs covered → 0 < open_total vs → IsLeast lower_end vs a
    → ((g : ℕ) (d : PointValue) → g < length vs → IsValue (slice_index_or vs g d)) → a ≤ average_high vs
least_within_average vs covered a same some is each =
    let low : ℕ → Fraction = λ g. ticks (lower_end (slice_index_or vs g no_point)) in
    let high : ℕ → Fraction = λ g. ticks (upper_end (slice_index_or vs g no_point)) in
    let one = least_above lower_end vs covered low a same some is (λ g d l o. ticks_le (lower_end (slice_index_or vs g d)) (lower_end (slice_index_or vs g no_point)) (same_default lower_end vs g d l)) in
    let two = least_below_mean covered low high (length vs) (rw (count_is vs covered same) some) (λ g l o. ticks_le (lower_end (slice_index_or vs g no_point)) (upper_end (slice_index_or vs g no_point)) (ends_order (slice_index_or vs g no_point) (each g no_point l))) in
    let three = mean_below vs covered high same some (λ g d l o. ticks_le (upper_end (slice_index_or vs g no_point)) (upper_end (slice_index_or vs g d)) (default_same upper_end vs g d l)) in
    ticks_back a (average_high vs) (le_trans_f one (le_trans_f two three))

pub down_uniformity : (x : Grid) (vs : List PointValue) (a n : ℕ) → AreMeeting x vs → 0 < open_total vs → IsLeast lower_end vs a → IsDown a (average_high vs) n
    → ratio n 1000 ≤ᶠ (uniformity x).hi
unfolding uniformity
down_uniformity x vs a n m some is d =
    at_test ((average x).lo.num == 0) (whole 1) (lesser (whole 1) (least x.covered (λ g. (x.value g).hi) x.points /ᶠ (average x).lo)) (ratio n 1000)
    (λ t. down_most a (average_high vs) n d)
    (λ t. down_meets a (average_high vs) n (least x.covered (λ g. (x.value g).hi) x.points) (average x).lo d
    (rw m.count (least_above lower_end vs x.covered (λ g. (x.value g).hi) a m.covered some is (λ g e l o. (m.meets g e l o).above)))
    (average_meets x vs m some).below
    (grind (arith, nat_tests)))

order_mean : (x : Grid) (vs : List PointValue) → AreMeeting x vs → 0 < open_total vs → least x.covered (λ g. (x.value g).lo) x.points ≤ᶠ (average x).hi
unfolding average
order_mean x vs m some = least_below_mean x.covered (λ g. (x.value g).lo) (λ g. (x.value g).hi) x.points (rw (m.count, count_is vs x.covered m.covered) some) (λ g l o. m.order g (subst (λ z. g < z) m.count l))

pub up_uniformity : (x : Grid) (vs : List PointValue) (a n : ℕ) → AreMeeting x vs → 0 < open_total vs → 0 < average_low vs → IsLeast upper_end vs a → IsUp a (average_low vs) n
    → (uniformity x).lo ≤ᶠ ratio n 1000
unfolding uniformity
up_uniformity x vs a n m some positive is u =
    up_meets a (average_low vs) n (least x.covered (λ g. (x.value g).lo) x.points) (average x).hi u
    (rw m.count (least_below_ticks upper_end vs x.covered (λ g. (x.value g).lo) a m.covered is (λ g e l o. (m.meets g e l o).below)))
    (average_meets x vs m some).above
    (positive_above (ticks_positive (average_low vs) positive) (average_meets x vs m some).above)
    (order_mean x vs m some)

pub positive_average : (x : Grid) (vs : List PointValue) → AreMeeting x vs → 0 < open_total vs → 0 < average_low vs → whole 0 <ᶠ (average x).hi
positive_average x vs m some positive = lt_le_trans_f (some_ticks (average_low vs) positive) (average_meets x vs m some).above

-- ---- near the loose uniformity

order_mean_near : (e : ℕ) (y : Grid) (vs : List PointValue) → AreNear e y vs → 0 < open_total vs → least y.covered (λ g. (y.value g).lo) y.points ≤ᶠ (average y).hi
unfolding average
order_mean_near e y vs m some = least_below_mean y.covered (λ g. (y.value g).lo) (λ g. (y.value g).hi) y.points (rw (m.count, count_is vs y.covered m.covered) some) (λ g l o. m.order g (subst (λ z. g < z) m.count l))

nearly_one : (w t : ℕ) → w ≤ 2049 → whole 1 ≤ᶠ (ticks t +ᶠ ticks w) → 68719474687 ≤ t
unfolding whole ticks ◌+ᶠ◌
nearly_one w t few h = let g = h.cross in omega arith

half_one : (t : ℕ) → 68719474687 ≤ t → whole 1 ≤ᶠ (whole 2 *ᶠ ticks t)
unfolding whole ticks ◌*ᶠ◌
half_one t h = record { cross = omega arith }

one_positive : 0 < (whole 1).num
unfolding whole
one_positive = omega arith

more_than : (e : ℕ) (x : Fraction) → (x +ᶠ ticks e) ≤ᶠ (x +ᶠ ticks (e + 1))
more_than e x = add_le_f (le_refl_f x) (ticks_le e (e + 1) (omega arith))

pub down_uniformity_near : (e : ℕ) (y : Grid) (vs : List PointValue) (a n : ℕ) → AreNear e y vs → 0 < open_total vs → average_low vs ≤ average_high vs → IsLeast lower_end vs a → IsDown a (average_high vs) n
    → whole 1 ≤ᶠ (average y).lo → ((uniformity y).lo -ᶠ ratio 2 1000) ≤ᶠ ratio n 1000
unfolding uniformity
down_uniformity_near e y vs a n m some order is d one =
    let few : e + 1 ≤ 2049 = let h = m.few in omega arith in
    let big : 68719474687 ≤ average_low vs = nearly_one (e + 1) (average_low vs) few (le_trans_f one (average_near_low e y vs m some)) in
    down_near (e + 1) a (average_high vs) n (least y.covered (λ g. (y.value g).lo) y.points) (average y).hi few d
    (rw m.count (le_trans_f (least_near_below (ticks e) lower_end vs y.covered (λ g. (y.value g).lo) a m.covered is (near_low e y vs m)) (more_than e (ticks a))))
    (average_near_high e y vs m some)
    (positive_above one_positive (le_trans_f one (average_order_near e y vs m some)))
    (order_mean_near e y vs m some)
    (omega (arith, big, order))
    (half_one (average_high vs) (omega (arith, big, order)))

pub up_uniformity_near : (e : ℕ) (y : Grid) (vs : List PointValue) (a n : ℕ) → AreNear e y vs → 0 < open_total vs → IsLeast upper_end vs a → IsUp a (average_low vs) n
    → whole 1 ≤ᶠ (average y).lo → ratio n 1000 ≤ᶠ ((uniformity y).hi +ᶠ ratio 2 1000)
unfolding uniformity
up_uniformity_near e y vs a n m some is u one =
    let few : e + 1 ≤ 2049 = let h = m.few in omega arith in
    let p : 0 < (average y).lo.num = positive_above one_positive one in
    let t : ((average y).lo.num == 0) ≡ false = grind (arith, nat_tests) in
    rw t (up_near (e + 1) a (average_low vs) n (least y.covered (λ g. (y.value g).hi) y.points) (average y).lo few u
    (rw m.count (le_trans_f (least_near_above (ticks e) upper_end vs y.covered (λ g. (y.value g).hi) a m.covered some is (near_high e y vs m)) (more_than e (least y.covered (λ g. (y.value g).hi) (length vs)))))
    (average_near_low e y vs m some) one)
