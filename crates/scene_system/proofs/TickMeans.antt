-- The mean of values in ticks against that of fractions at each point.
use Rattle.std.proofs.Common.{ℕ, ◌+◌, ◌-◌, ◌*◌, ◌/◌, ◌<◌, ◌≤◌, ◌≡◌, Bool, true, false, not, if◌then◌else◌, List, [], ◌∷◌, length, arith, subst, ap, ◌∙◌}
use Rattle.std.specs.Int.{div_ceil}
use Rattle.std.proofs.Math.Nat.{div-mul-le_self, lt-div-mul-add, lt_of_mul-lt-mul_right}
use Rattle.std.proofs.lemmas.List.Sums.{sum_by-cons}
use Rattle.std.proofs.lemmas.Grind.{div_ceil_times}
use Rattle.std.specs.Prelude.{slice_index_or, sum_by, count_by}
use Rattle.std.proofs.Math.Seq.{take-length}
use Rattle.fx_base.specs.Fraction.{Fraction, ◌≤ᶠ◌, ◌+ᶠ◌, ◌/ᶠ◌, whole}
use Rattle.fx_base.specs.Units.{ticks}
use Rattle.fx_base.proofs.Order.{le_refl_f, le_trans_f, add_le_f, add_right_f, sub_le_f}
use Rattle.fx_base.proofs.Sums.{ticks_le, ticks_split, ticks_join, ticks_sub_split}
use Rattle.interval_system.specs.Values.{open_count, open_sum, mean}
use Rattle.scene_system.specs.Sums.{is_open, lower_end, upper_end, low_total, high_total, open_total, average_low, average_high}
use Rattle.scene_system.specs.declared.value.PointValue.{PointValue}
use Rattle.scene_system.proofs.Means.{AreCoveredBy, open_number, sums_above, sums_below, counts, quotient_above, quotient_below, quotient_near_above, quotient_near_below}

-- ---- the average of values, in ticks

pub count_is : (vs : List PointValue) (covered : ℕ → Bool) → AreCoveredBy vs covered → open_count covered (length vs) ≡ open_total vs
count_is vs covered same = counts vs covered same (length vs) (omega arith) ∙ ap (λ (xs : List PointValue). count_by is_open xs) (take-length vs)

all_above : (number : PointValue → ℕ) (vs : List PointValue) (covered : ℕ → Bool) (f : ℕ → Fraction) → AreCoveredBy vs covered
    → ((g : ℕ) (d : PointValue) → g < length vs → covered g ≡ false → ticks (number (slice_index_or vs g d)) ≤ᶠ f g)
    → ticks (sum_by (open_number number) vs) ≤ᶠ open_sum covered f (length vs)
all_above number vs covered f same h =
    let P : List PointValue → Type 0 = λ xs. ticks (sum_by (open_number number) xs) ≤ᶠ open_sum covered f (length vs) in
    subst P (take-length vs) (sums_above number vs covered f same h (length vs) (omega arith))

all_below : (number : PointValue → ℕ) (vs : List PointValue) (covered : ℕ → Bool) (f : ℕ → Fraction) → AreCoveredBy vs covered
    → ((g : ℕ) (d : PointValue) → g < length vs → covered g ≡ false → f g ≤ᶠ ticks (number (slice_index_or vs g d)))
    → open_sum covered f (length vs) ≤ᶠ ticks (sum_by (open_number number) vs)
all_below number vs covered f same h =
    let P : List PointValue → Type 0 = λ xs. open_sum covered f (length vs) ≤ᶠ ticks (sum_by (open_number number) xs) in
    subst P (take-length vs) (sums_below number vs covered f same h (length vs) (omega arith))

pub mean_above : (vs : List PointValue) (covered : ℕ → Bool) (f : ℕ → Fraction) → AreCoveredBy vs covered → 0 < open_total vs
    → ((g : ℕ) (d : PointValue) → g < length vs → covered g ≡ false → ticks (lower_end (slice_index_or vs g d)) ≤ᶠ f g)
    → ticks (average_low vs) ≤ᶠ mean covered f (length vs)
unfolding mean
mean_above vs covered f same some h = rw (count_is vs covered same) (quotient_above (low_total vs) (open_total vs) (open_sum covered f (length vs)) some (all_above lower_end vs covered f same h))

pub mean_below : (vs : List PointValue) (covered : ℕ → Bool) (f : ℕ → Fraction) → AreCoveredBy vs covered → 0 < open_total vs
    → ((g : ℕ) (d : PointValue) → g < length vs → covered g ≡ false → f g ≤ᶠ ticks (upper_end (slice_index_or vs g d)))
    → mean covered f (length vs) ≤ᶠ ticks (average_high vs)
unfolding mean
mean_below vs covered f same some h = rw (count_is vs covered same) (quotient_below (high_total vs) (open_total vs) (open_sum covered f (length vs)) some (all_below upper_end vs covered f same h))

-- ---- the same, where each value is up to e ticks off

sum_near_step : (b : Bool) (x y p q e n : ℕ) → x ≤ y + e → p ≤ q + e * n → (if b then 0 else x) + p ≤ ((if b then 0 else y) + q) + e * ((if not b then 1 else 0) + n)
sum_near_step true x y p q e n h g = omega (arith, g)
sum_near_step false x y p q e n h g = omega (arith, h, g)

pub open_count-cons : (v : PointValue) (vs : List PointValue) → count_by is_open (v ∷ vs) ≡ (if is_open v then 1 else 0) + count_by is_open vs
open_count-cons v vs = sum_by-cons (λ (w : PointValue). if is_open w then 1 else 0) v vs

sum_near : (f g : PointValue → ℕ) (e : ℕ) → ((v : PointValue) → f v ≤ g v + e) → (vs : List PointValue)
    → sum_by (open_number f) vs ≤ sum_by (open_number g) vs + e * count_by is_open vs
sum_near f g e h [] = omega arith
sum_near f g e h (v ∷ vs) =
    rw (sum_by-cons (open_number f) v vs, sum_by-cons (open_number g) v vs, open_count-cons v vs)
    (sum_near_step v.covered (f v) (g v) (sum_by (open_number f) vs) (sum_by (open_number g) vs) e (count_by is_open vs) (h v) (sum_near f g e h vs))

quotient_up_to : (c q r t e : ℕ) → 0 < c → q * c ≤ t → t < (r + 1 + e) * c → q ≤ r + e
quotient_up_to c q r t e p f g = let h : q < r + 1 + e = lt_of_mul-lt-mul_right c (omega (arith, f, g)) in omega (arith, h)

pub mean_near_above : (e : ℕ) (vs : List PointValue) (covered : ℕ → Bool) (f : ℕ → Fraction) → AreCoveredBy vs covered → 0 < open_total vs
    → ((g : ℕ) (d : PointValue) → g < length vs → covered g ≡ false → f g ≤ᶠ (ticks (lower_end (slice_index_or vs g d)) +ᶠ ticks e))
    → mean covered f (length vs) ≤ᶠ (ticks (average_low vs) +ᶠ ticks (e + 1))
unfolding mean
mean_near_above e vs covered f same some h =
    let raised : PointValue → ℕ = λ v. lower_end v + e in
    let t = sum_by (open_number raised) vs in
    let c = open_total vs in
    let one = quotient_near_above t c (open_sum covered f (length vs)) some (all_below raised vs covered f same
    (λ g d l o. le_trans_f (h g d l o) (ticks_join (lower_end (slice_index_or vs g d)) e))) in
    let most : t ≤ low_total vs + e * c = sum_near raised lower_end e (λ v. omega arith) vs in
    let two : t / c ≤ average_low vs + e = quotient_up_to c (t / c) (average_low vs) t e some (div-mul-le_self t c)
    (let k = lt-div-mul-add {a = low_total vs} some in omega (arith, most, k)) in
    rw (count_is vs covered same) (le_trans_f one (le_trans_f (ticks_join (t / c) 1) (le_trans_f (ticks_le (t / c + 1) (average_low vs + (e + 1)) (omega (arith, two))) (ticks_split (average_low vs) (e + 1)))))

pub mean_near_below : (e : ℕ) (vs : List PointValue) (covered : ℕ → Bool) (f : ℕ → Fraction) → AreCoveredBy vs covered → 0 < open_total vs
    → ((g : ℕ) (d : PointValue) → g < length vs → covered g ≡ false → ticks (upper_end (slice_index_or vs g d)) ≤ᶠ (f g +ᶠ ticks e))
    → ticks (average_high vs) ≤ᶠ (mean covered f (length vs) +ᶠ ticks (e + 1))
unfolding mean
mean_near_below e vs covered f same some h =
    let lowered : PointValue → ℕ = λ v. upper_end v - e in
    let t = sum_by (open_number lowered) vs in
    let c = open_total vs in
    let s = open_sum covered f (length vs) in
    let one = quotient_near_below t c s some (all_above lowered vs covered f same
    (λ g d l o. le_trans_f (ticks_sub_split (upper_end (slice_index_or vs g d)) e) (sub_le_f (ticks (upper_end (slice_index_or vs g d))) (ticks e) (h g d l o)))) in
    let most : high_total vs ≤ t + e * c = sum_near upper_end lowered e (λ v. omega arith) vs in
    let k = div_ceil_times (high_total vs) c some in
    let m = div_ceil_times t c some in
    let two : average_high vs ≤ div_ceil t c + e = quotient_up_to c (average_high vs) (div_ceil t c) (average_high vs * c) e some (omega arith) (omega (arith, most, k.1, m.0)) in
    rw (count_is vs covered same) (le_trans_f (ticks_le (average_high vs) (div_ceil t c + e) two) (le_trans_f (ticks_split (div_ceil t c) e)
    (le_trans_f (add_le_f one (le_refl_f (ticks e))) (le_trans_f (add_right_f (s /ᶠ whole c) (ticks 1) (ticks e)) (add_le_f (le_refl_f (s /ᶠ whole c)) (le_trans_f (ticks_join 1 e) (ticks_le (1 + e) (e + 1) (omega arith))))))))
