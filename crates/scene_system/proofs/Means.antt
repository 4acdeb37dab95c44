-- Sums and means of the values in ticks against those of the exact and of the loose values.
use Rattle.std.proofs.Common.{ℕ, zero, suc, ◌+◌, ◌-◌, ◌*◌, ◌/◌, ◌<◌, ◌≤◌, ◌≡◌, Bool, true, false, not, List, length, take, arith, refl, sym, ap, ◌∙◌, subst, add-one, if◌then◌else◌, pos}
use Rattle.std.specs.Prelude.{slice_index_or, sum_by, count_by}
use Rattle.std.specs.Int.{div_ceil}
use Rattle.std.proofs.Math.Nat.{div-mul-le_self, lt-div-mul-add}
use Rattle.std.proofs.lemmas.Grind.{div_ceil_times}
use Rattle.std.proofs.lemmas.List.Sums.{sum_by_more, count_by_more_yes, count_by_more_no}
use Rattle.fx_base.specs.Fraction.{Fraction, ◌≤ᶠ◌, ◌+ᶠ◌, ◌*ᶠ◌, ◌/ᶠ◌, whole, sum_to}
use Rattle.fx_base.specs.Units.{ticks}
use Rattle.fx_base.proofs.Order.{le_refl_f, le_trans_f, add_le_f, mul_le_f}
use Rattle.fx_base.proofs.Ratios.{le_over, over_below}
use Rattle.fx_base.proofs.Sums.{ticks_le, ticks_split, ticks_join, no_ticks}
use Rattle.interval_system.specs.Values.{open_count, open_sum}
use Rattle.scene_system.specs.Sums.{is_open}
use Rattle.scene_system.specs.declared.value.PointValue.{PointValue}

-- ---- sums

abbrev pub open_number : (PointValue → ℕ) → PointValue → ℕ
open_number number v = if v.covered then 0 else number v

abbrev pub no_point : PointValue
no_point = record { covered = true; value = record { lo = pos 0; hi = pos 0 } }

-- the same points are covered
abbrev pub AreCoveredBy : List PointValue → (ℕ → Bool) → Type 0
AreCoveredBy vs covered = (g : ℕ) (d : PointValue) → g < length vs → (slice_index_or vs g d).covered ≡ covered g

term_above : (b c : Bool) (x : ℕ) (f : Fraction) → b ≡ c → (c ≡ false → ticks x ≤ᶠ f) → ticks (if b then 0 else x) ≤ᶠ (if c then whole 0 else f)
term_above b true x f e h = rw e (no_ticks.0)
term_above b false x f e h = rw e (h refl)

term_below : (b c : Bool) (x : ℕ) (f : Fraction) → b ≡ c → (c ≡ false → f ≤ᶠ ticks x) → (if c then whole 0 else f) ≤ᶠ ticks (if b then 0 else x)
term_below b true x f e h = rw e (no_ticks.1)
term_below b false x f e h = rw e (h refl)

pub sums_above : (number : PointValue → ℕ) (vs : List PointValue) (covered : ℕ → Bool) (f : ℕ → Fraction) → AreCoveredBy vs covered
    → ((g : ℕ) (d : PointValue) → g < length vs → covered g ≡ false → ticks (number (slice_index_or vs g d)) ≤ᶠ f g)
    → (k : ℕ) → k ≤ length vs → ticks (sum_by (open_number number) (take k vs)) ≤ᶠ open_sum covered f k
unfolding open_sum sum_to
sums_above number vs covered f same most zero l = no_ticks.0
sums_above number vs covered f same most (suc k) l =
    let h : k < length vs = omega arith in
    rw (← add-one, sum_by_more (open_number number) vs k no_point h)
    (le_trans_f (ticks_split (sum_by (open_number number) (take k vs)) (open_number number (slice_index_or vs k no_point)))
    (add_le_f (sums_above number vs covered f same most k (omega arith))
    (term_above (slice_index_or vs k no_point).covered (covered k) (number (slice_index_or vs k no_point)) (f k) (same k no_point h) (most k no_point h))))

pub sums_below : (number : PointValue → ℕ) (vs : List PointValue) (covered : ℕ → Bool) (f : ℕ → Fraction) → AreCoveredBy vs covered
    → ((g : ℕ) (d : PointValue) → g < length vs → covered g ≡ false → f g ≤ᶠ ticks (number (slice_index_or vs g d)))
    → (k : ℕ) → k ≤ length vs → open_sum covered f k ≤ᶠ ticks (sum_by (open_number number) (take k vs))
unfolding open_sum sum_to
sums_below number vs covered f same most zero l = no_ticks.1
sums_below number vs covered f same most (suc k) l =
    let h : k < length vs = omega arith in
    rw (← add-one, sum_by_more (open_number number) vs k no_point h)
    (le_trans_f (add_le_f (sums_below number vs covered f same most k (omega arith))
    (term_below (slice_index_or vs k no_point).covered (covered k) (number (slice_index_or vs k no_point)) (f k) (same k no_point h) (most k no_point h)))
    (ticks_join (sum_by (open_number number) (take k vs)) (open_number number (slice_index_or vs k no_point))))

-- ---- how many aren't covered

count_step : (vs : List PointValue) (k n : ℕ) (b : Bool) → k < length vs → (slice_index_or vs k no_point).covered ≡ b → n ≡ count_by is_open (take k vs)
    → (if b then n else n + 1) ≡ count_by is_open (take (k + 1) vs)
count_step vs k n true h c e = e ∙ sym (count_by_more_no is_open vs k no_point h (ap not c))
count_step vs k n false h c e = ap (λ (z : ℕ). z + 1) e ∙ sym (count_by_more_yes is_open vs k no_point h (ap not c))

pub counts : (vs : List PointValue) (covered : ℕ → Bool) → AreCoveredBy vs covered → (k : ℕ) → k ≤ length vs → open_count covered k ≡ count_by is_open (take k vs)
unfolding open_count
counts vs covered same zero l = refl
counts vs covered same (suc k) l =
    let h : k < length vs = omega arith in
    let e : k + 1 ≡ suc k = omega arith in
    let P : ℕ → Type 0 = λ j. (if covered k then open_count covered k else open_count covered k + 1) ≡ count_by is_open (take j vs) in
    subst P e (count_step vs k (open_count covered k) (covered k) h (same k no_point h) (counts vs covered same k (omega arith)))

-- ---- quotients by the count

times_below : (q c t : ℕ) → q * c ≤ t → (ticks q *ᶠ whole c) ≤ᶠ ticks t
unfolding ticks whole ◌*ᶠ◌
times_below q c t h = record { cross = omega (arith, h) }

times_above : (q c t : ℕ) → t ≤ q * c → ticks t ≤ᶠ (ticks q *ᶠ whole c)
unfolding ticks whole ◌*ᶠ◌
times_above q c t h = record { cross = omega (arith, h) }

pub whole_positive : (c : ℕ) → 0 < c → 0 < (whole c).num
unfolding whole
whole_positive c p = p

pub quotient_above : (t c : ℕ) (s : Fraction) → 0 < c → ticks t ≤ᶠ s → ticks (t / c) ≤ᶠ (s /ᶠ whole c)
quotient_above t c s p h = le_over s (whole c) (ticks (t / c)) (whole_positive c p) (le_trans_f (times_below (t / c) c t (div-mul-le_self t c)) h)

pub quotient_below : (t c : ℕ) (s : Fraction) → 0 < c → s ≤ᶠ ticks t → (s /ᶠ whole c) ≤ᶠ ticks (div_ceil t c)
quotient_below t c s p h = over_below s (whole c) (ticks (div_ceil t c)) (whole_positive c p) (le_trans_f h (times_above (div_ceil t c) c t ((div_ceil_times t c p).0)))

pub quotient_near_above : (t c : ℕ) (s : Fraction) → 0 < c → s ≤ᶠ ticks t → (s /ᶠ whole c) ≤ᶠ (ticks (t / c) +ᶠ ticks 1)
quotient_near_above t c s p h = over_below s (whole c) (ticks (t / c) +ᶠ ticks 1) (whole_positive c p)
    (le_trans_f h (le_trans_f (times_above (t / c + 1) c t (omega (arith, lt-div-mul-add {a = t} p))) (mul_le_f (ticks_split (t / c) 1) (le_refl_f (whole c)))))

less_one : (q c t : ℕ) → q * c < t + c → (q - 1) * c ≤ t
less_one zero c t h = omega arith
less_one (suc q) c t h = rw (let e : suc q - 1 ≡ q = omega arith in e) (omega (arith, h))

pub quotient_near_below : (t c : ℕ) (s : Fraction) → 0 < c → ticks t ≤ᶠ s → ticks (div_ceil t c) ≤ᶠ ((s /ᶠ whole c) +ᶠ ticks 1)
quotient_near_below t c s p h =
    let q = div_ceil t c in
    let under : ticks (q - 1) ≤ᶠ (s /ᶠ whole c) =
    le_over s (whole c) (ticks (q - 1)) (whole_positive c p) (le_trans_f (times_below (q - 1) c t (less_one q c t ((div_ceil_times t c p).1))) h) in
    le_trans_f (ticks_le q ((q - 1) + 1) (omega arith)) (le_trans_f (ticks_split (q - 1) 1) (add_le_f under (le_refl_f (ticks 1))))
