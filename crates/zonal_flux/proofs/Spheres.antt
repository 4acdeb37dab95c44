-- The constants of zones add up to half spheres: the differences between the cosines at the edges of zones cancel, up to their widths.
use Rattle.std.proofs.Common.{ℕ, zero, suc, ◌+◌, ◌-◌, ◌*◌, ◌^◌, ◌<◌, ◌≤◌, ◌≡◌, inl, inr, arith, subst, refl}
use Rattle.std.proofs.lemmas.Bool.{cases_lt}
use Rattle.std.proofs.Math.Nat.{pow-zero}
use Rattle.fx_base.specs.Fraction.{Fraction, ◌≤ᶠ◌, ◌+ᶠ◌, ◌-ᶠ◌, ◌*ᶠ◌, whole, ratio, sum_to}
use Rattle.fx_base.specs.Interval.{Interval, InOrder, Meets, sum_of}
use Rattle.fx_base.specs.Units.{millionths}
use Rattle.fx_base.proofs.Near.{any_depths, nested_later}
use Rattle.fx_base.proofs.Order.{le_refl_f, le_trans_f, le_add_f, add_le_f, add_right_f, add_left_f, add_comm_f, add_zero_f, zero_add_f, le_add_left_f, le_sub_add_f, sub_add_f, sub_mono_f, zero_le_f, mul_le_f, mul_one_f, le_mul_one_f, at_most_le}
use Rattle.fx_base.proofs.Sums.{sum_to_le, sum_to_times, times_sum_to}
use Rattle.fx_base.proofs.Truth.{le_true, le_false}
use Rattle.series_enclose.specs.SeriesTests.{all_series}
use Rattle.series_enclose.specs.Series.{upper_sum, lower_sum, power_over, factorial, exponential_term, sine_term, cosine_term, radians, pi, sine_of, cosine_of, sine, cosine}
use Rattle.series_enclose.proofs.Alternating.{upper_falls_to, lower_rises_from, lower_le_upper}
use Rattle.series_enclose.proofs.Arcs.{arc_high_one, arc_low_one, sine_nested, cosine_nested}
use Rattle.series_enclose.proofs.ArcSteps.{within_45}
use Rattle.series_enclose.proofs.PiLaws.{pi_nested}
use Rattle.series_enclose.proofs.SlantLaws.{cosine_high_falls, sine_high_rises}
use Rattle.series_enclose.proofs.Terms.{sine_falls, cosine_falls}
use Rattle.series_enclose.proofs.Widths.{sine_first}
use Rattle.zonal_flux.specs.Zones.{degrees, cosine_at, twice, difference, product, constant}
use Rattle.zonal_flux.specs.Laws.{ZonesMakeHalfSpheres}
use Rattle.zonal_flux.proofs.SolidAngles.{below_is, above_is}

-- ---- cosines at the edges of zones

near_at : (n m : ℕ) → m ≤ 45 → cosine_at n m ≡ cosine n (degrees m)
unfolding cosine_at
near_at n m p = let q = le_true m 45 p in rw q refl

far_at : (n m : ℕ) → 45 < m → cosine_at n m ≡ sine n (degrees (90 - m))
unfolding cosine_at
far_at n m p = let q = le_false m 45 p in rw q refl

degrees_le : (a b : ℕ) → a ≤ b → degrees a ≤ᶠ degrees b
unfolding millionths
degrees_le a b h = record { cross = omega arith }

at_most_45 : (a : ℕ) → a ≤ 45 → degrees a ≤ᶠ whole 45
at_most_45 a h = within_45 (a * 1000000) (omega arith)

cosine_order : (n m : ℕ) → m ≤ 90 → InOrder (cosine_at n m)
cosine_order n m p = elim (cases_lt 45 m) [
  | inl q ↦ rw (far_at n m q) ((sine_nested (degrees (90 - m)) (at_most_45 (90 - m) (omega arith))).order n)
  | inr q ↦ rw (near_at n m q) ((cosine_nested (degrees m) (at_most_45 m q)).order n)
]

-- the sine of 40 degrees lies below the cosine of 45 at every depth: at the first two it is computed, and deeper enclosures lie within
-- the second one
at_depth_0 : (sine 0 (degrees 40)).hi ≤ᶠ (cosine 0 (degrees 45)).hi
unfolding all_series millionths
at_depth_0 = at_most_le (sine 0 (degrees 40)).hi (cosine 0 (degrees 45)).hi refl

at_depth_1 : (sine 1 (degrees 40)).hi ≤ᶠ (cosine 1 (degrees 45)).lo
unfolding all_series millionths
at_depth_1 = at_most_le (sine 1 (degrees 40)).hi (cosine 1 (degrees 45)).lo refl

between_40_and_45 : (n : ℕ) → (sine n (degrees 40)).hi ≤ᶠ (cosine n (degrees 45)).hi
between_40_and_45 zero = at_depth_0
between_40_and_45 (suc n) =
    le_trans_f (nested_later (λ m. sine m (degrees 40)) (sine_nested (degrees 40) (at_most_45 40 (omega arith))) 1 (suc n) (omega arith)).upper
    (le_trans_f at_depth_1 (any_depths (λ m. cosine m (degrees 45)) (cosine_nested (degrees 45) (at_most_45 45 (omega arith))) 1 (suc n)))

edge_at_45 : (n : ℕ) → (cosine_at n 50).hi ≤ᶠ (cosine_at n 45).hi
edge_at_45 n = rw (far_at n 50 (omega arith), near_at n 45 (omega arith)) (between_40_and_45 n)

falls : (n k : ℕ) → k < 18 → (cosine_at n (5 * k + 5)).hi ≤ᶠ (cosine_at n (5 * k)).hi
falls n k p = elim (cases_lt k 9) [
  | inl q ↦ rw (near_at n (5 * k + 5) (omega arith), near_at n (5 * k) (omega arith))
      (cosine_high_falls n (degrees (5 * k)) (degrees (5 * k + 5)) (degrees_le (5 * k) (5 * k + 5) (omega arith)) (at_most_45 (5 * k + 5) (omega arith)))
  | inr q ↦ elim (cases_lt 9 k) [
    | inl r ↦ rw (far_at n (5 * k + 5) (omega arith), far_at n (5 * k) (omega arith))
        (sine_high_rises n (degrees (90 - (5 * k + 5))) (degrees (90 - 5 * k)) (degrees_le (90 - (5 * k + 5)) (90 - 5 * k) (omega arith)) (at_most_45 (90 - 5 * k) (omega arith)))
    | inr r ↦ let e : 9 ≡ k = omega arith in
        let P : ℕ → Type 0 = λ z. (cosine_at n (5 * z + 5)).hi ≤ᶠ (cosine_at n (5 * z)).hi in subst P e (edge_at_45 n)
  ]
]

-- ---- straight down and level

no_arc : (n : ℕ) → (radians (pi n) (degrees 0)).hi ≤ᶠ whole 0
unfolding radians ◌*ᶠ◌ ratio whole millionths
no_arc n = record { cross = omega arith }

no_arc_low : (n : ℕ) → (radians (pi n) (degrees 0)).lo.num ≡ 0
unfolding radians ◌*ᶠ◌ ratio millionths
no_arc_low n = omega arith

level : (n : ℕ) → (cosine_at n 90).hi ≤ᶠ whole 0
unfolding sine sine_of upper_sum
level n = rw (far_at n 90 (omega arith))
    (le_trans_f (upper_falls_to (sine_term (radians (pi n) (degrees 0)).hi) (sine_falls _ (arc_high_one n (degrees 0) (at_most_45 0 (omega arith)))) n)
    (le_trans_f (sine_first _) (no_arc n)))

first_term : (x : Fraction) → cosine_term x 0 ≤ᶠ whole 1
unfolding cosine_term exponential_term power_over factorial whole
first_term x = record { cross = rw (pow-zero x.num, pow-zero x.den) (omega arith) }

no_square : (a d : ℕ) → a ≡ 0 → 1 * (d ^ 0 * 1 * (d ^ 2 * 2)) ≤ (a ^ 0 * (d ^ 2 * 2) - a ^ 2 * (d ^ 0 * 1)) * 1
no_square a d e = rw (e, pow-zero d) (omega arith)

-- 1 less a half of x^2, where x is 0
first_two_terms : (x : Fraction) → x.num ≡ 0 → whole 1 ≤ᶠ lower_sum (cosine_term x) 0
unfolding lower_sum upper_sum cosine_term exponential_term power_over factorial whole ◌-ᶠ◌
first_two_terms x e = record { cross = no_square x.num x.den e }

straight_down_most : (n : ℕ) → (cosine_at n 0).hi ≤ᶠ whole 1
unfolding cosine cosine_of upper_sum
straight_down_most n = rw (near_at n 0 (omega arith))
    (le_trans_f (upper_falls_to (cosine_term (radians (pi n) (degrees 0)).lo) (cosine_falls _ (arc_low_one n (degrees 0) (at_most_45 0 (omega arith)))) n) (first_term _))

straight_down_least : (n : ℕ) → whole 1 ≤ᶠ (cosine_at n 0).hi
unfolding cosine cosine_of
straight_down_least n = rw (near_at n 0 (omega arith))
    (let t = cosine_term (radians (pi n) (degrees 0)).lo in
    le_trans_f (first_two_terms _ (no_arc_low n))
    (le_trans_f (lower_rises_from t (cosine_falls _ (arc_low_one n (degrees 0) (at_most_45 0 (omega arith)))) n) (lower_le_upper t n)))

-- ---- the sums of differences

-- the upper end of the cosine at the edge between zone k - 1 and zone k
edge : ℕ → ℕ → Fraction
edge n k = (cosine_at n (5 * k)).hi

-- from that edge to the next one
drop : ℕ → ℕ → Interval
drop n k = difference (cosine_at n (5 * k)) (cosine_at n (5 * k + 5))

next_edge : (n k : ℕ) → (cosine_at n (5 * k + 5)).hi ≡ edge n (suc k)
unfolding edge
next_edge n k =
    let e : 5 * k + 5 ≡ 5 * suc k = omega arith in
    let P : ℕ → Type 0 = λ z. (cosine_at n (5 * k + 5)).hi ≡ (cosine_at n z).hi in subst P e refl

-- the upper ends fall by at least the lower end of a difference, and by at most its upper end
drop_low : (n k : ℕ) → k < 18 → ((drop n k).lo +ᶠ edge n (suc k)) ≤ᶠ edge n k
unfolding drop difference edge
drop_low n k p =
    let a = cosine_at n (5 * k) in
    let b = cosine_at n (5 * k + 5) in
    let P : Fraction → Type 0 = λ z. ((a.lo -ᶠ b.hi) +ᶠ z) ≤ᶠ a.hi in
    subst P (next_edge n k)
    (le_trans_f (add_le_f (sub_mono_f (cosine_order n (5 * k) (omega arith)) (le_refl_f b.hi)) (le_refl_f b.hi)) (sub_add_f a.hi b.hi (falls n k p)))

drop_high : (n k : ℕ) → k < 18 → edge n k ≤ᶠ ((drop n k).hi +ᶠ edge n (suc k))
unfolding drop difference edge
drop_high n k p =
    let a = cosine_at n (5 * k) in
    let b = cosine_at n (5 * k + 5) in
    let P : Fraction → Type 0 = λ z. a.hi ≤ᶠ ((a.hi -ᶠ b.lo) +ᶠ z) in
    subst P (next_edge n k) (le_trans_f (le_sub_add_f a.hi b.lo) (add_le_f (le_refl_f _) (cosine_order n (5 * k + 5) (omega arith))))

first_edge_most : (n : ℕ) → edge n 0 ≤ᶠ whole 1
unfolding edge
first_edge_most n = straight_down_most n

first_edge_least : (n : ℕ) → whole 1 ≤ᶠ edge n 0
unfolding edge
first_edge_least n = straight_down_least n

level_edge : (n : ℕ) → edge n 18 ≤ᶠ whole 0
unfolding edge
level_edge n = level n

-- from straight down on
below_low : (n m : ℕ) → m ≤ 18 → (sum_to m (λ k. (drop n k).lo) +ᶠ edge n m) ≤ᶠ whole 1
unfolding sum_to
below_low n zero p = le_trans_f (zero_add_f (edge n 0)) (first_edge_most n)
below_low n (suc m) p =
    le_trans_f (add_right_f _ (drop n m).lo (edge n (suc m))) (le_trans_f (add_le_f (le_refl_f _) (drop_low n m (omega arith))) (below_low n m (omega arith)))

below_high : (n m : ℕ) → m ≤ 18 → whole 1 ≤ᶠ (sum_to m (λ k. (drop n k).hi) +ᶠ edge n m)
unfolding sum_to
below_high n zero p = le_trans_f (first_edge_least n) (le_add_left_f (whole 0) (edge n 0))
below_high n (suc m) p =
    le_trans_f (below_high n m (omega arith)) (le_trans_f (add_le_f (le_refl_f _) (drop_high n m (omega arith))) (add_left_f _ (drop n m).hi (edge n (suc m))))

-- from the level plane back
above_low : (n j : ℕ) → j ≤ 18 → sum_to j (λ i. (drop n (17 - i)).lo) ≤ᶠ edge n (18 - j)
unfolding sum_to
above_low n zero p = zero_le_f (edge n 18)
above_low n (suc j) p =
    let e : 18 - j ≡ suc (17 - j) = omega arith in
    let f : 17 - j ≡ 18 - suc j = omega arith in
    let P : ℕ → Type 0 = λ z. (sum_to j (λ i. (drop n (17 - i)).lo) +ᶠ (drop n (17 - j)).lo) ≤ᶠ edge n z in
    let Q : ℕ → Type 0 = λ z. sum_to j (λ i. (drop n (17 - i)).lo) ≤ᶠ edge n z in
    let before = subst Q e (above_low n j (omega arith)) in
    subst P f (le_trans_f (add_le_f before (le_refl_f (drop n (17 - j)).lo))
    (le_trans_f (add_comm_f (edge n (suc (17 - j))) (drop n (17 - j)).lo) (drop_low n (17 - j) (omega arith))))

above_high : (n j : ℕ) → j ≤ 18 → edge n (18 - j) ≤ᶠ (sum_to j (λ i. (drop n (17 - i)).hi) +ᶠ edge n 18)
unfolding sum_to
above_high n zero p = le_add_left_f (whole 0) (edge n 18)
above_high n (suc j) p =
    let e : 18 - j ≡ suc (17 - j) = omega arith in
    let f : 17 - j ≡ 18 - suc j = omega arith in
    let s = sum_to j (λ i. (drop n (17 - i)).hi) in
    let d = (drop n (17 - j)).hi in
    let P : ℕ → Type 0 = λ z. edge n z ≤ᶠ ((s +ᶠ d) +ᶠ edge n 18) in
    let Q : ℕ → Type 0 = λ z. edge n z ≤ᶠ (s +ᶠ edge n 18) in
    let before = subst Q e (above_high n j (omega arith)) in
    subst P f (le_trans_f (drop_high n (17 - j) (omega arith))
    (le_trans_f (add_le_f (le_refl_f d) before)
    (le_trans_f (add_left_f d s (edge n 18)) (add_le_f (add_comm_f d s) (le_refl_f (edge n 18))))))

-- ---- half spheres

twice_order : (n : ℕ) → InOrder (twice (pi n))
unfolding twice
twice_order n = mul_le_f (le_refl_f (whole 2)) (pi_nested.order n)

half_sphere : (n : ℕ) (c d : ℕ → Interval) → ((k : ℕ) → k < 18 → c k ≡ product (twice (pi n)) (d k))
    → sum_to 18 (λ k. (d k).lo) ≤ᶠ whole 1 → whole 1 ≤ᶠ sum_to 18 (λ k. (d k).hi) → Meets (sum_of 18 c) (twice (pi n))
unfolding product
half_sphere n c d same low high =
    let t = twice (pi n) in
    record {
      above =
          le_trans_f (sum_to_le 18 (λ k. (c k).lo) (λ k. t.lo *ᶠ (d k).lo) (λ k p. rw (same k p) (le_refl_f _)))
          (le_trans_f (sum_to_times 18 t.lo (λ k. (d k).lo))
          (le_trans_f (mul_le_f (twice_order n) low) (mul_one_f t.hi)));
      below =
          le_trans_f (le_mul_one_f t.lo)
          (le_trans_f (mul_le_f (twice_order n) high)
          (le_trans_f (times_sum_to 18 t.hi (λ k. (d k).hi))
          (sum_to_le 18 (λ k. t.hi *ᶠ (d k).hi) (λ k. (c k).hi) (λ k p. rw (same k p) (le_refl_f _)))));
    }

constant_below : (n k : ℕ) → k < 18 → constant n k ≡ product (twice (pi n)) (drop n k)
unfolding constant drop
constant_below n k p = rw (← below_is k k p refl) refl

constant_above : (n i : ℕ) → i < 18 → constant n (18 + i) ≡ product (twice (pi n)) (drop n (17 - i))
unfolding constant drop
constant_above n i p = rw (← above_is (18 + i) (17 - i) (omega arith) (omega arith)) refl

pub half_spheres : ZonesMakeHalfSpheres
half_spheres n =
    let none = level_edge n in (
      half_sphere n (constant n) (drop n) (constant_below n)
          (le_trans_f (le_add_f _ (edge n 18)) (below_low n 18 (omega arith)))
          (le_trans_f (below_high n 18 (omega arith)) (le_trans_f (add_le_f (le_refl_f _) none) (add_zero_f _))),
      half_sphere n (λ i. constant n (18 + i)) (λ i. drop n (17 - i)) (constant_above n)
          (le_trans_f (above_low n 18 (omega arith)) (first_edge_most n))
          (le_trans_f (first_edge_least n) (le_trans_f (above_high n 18 (omega arith)) (le_trans_f (add_le_f (le_refl_f _) none) (add_zero_f _)))),
    )
