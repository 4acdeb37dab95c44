-- What a row of the table says of a slope: the tangent of its angle is below the slope, or that of each later angle is above it.
use Rattle.std.proofs.Common.{ℕ, ◌+◌, ◌*◌, ◌<◌, ◌≤◌, inl, inr, arith, lit≤, ℤ, pos, negsuc, ◌≤ℤ◌, ◌+ℤ◌}
use Rattle.std.proofs.Math.Nat.{zero-lt-suc, mul-le-mul_left}
use Rattle.std.proofs.lemmas.Int.{ints}
use Rattle.fx_base.specs.Fraction.{Fraction, ◌≤ᶠ◌, ◌<ᶠ◌, ◌+ᶠ◌, ◌-ᶠ◌, ◌*ᶠ◌, whole, ratio}
use Rattle.fx_base.specs.Interval.{Interval}
use Rattle.fx_base.specs.Ends.{Ends}
use Rattle.fx_base.specs.Units.{natural, ticks, millionths}
use Rattle.fx_base.proofs.Order.{le_refl_f, le_trans_f, lt_le_trans_f, le_lt_absurd_f, lt_or_le_f, le_of_lt_f, mul_lt_f, add_le_f, add_cancel_f, add_swap_f, add_right_f, zero_le_f}
use Rattle.fx_base.proofs.Ratios.{positive_above}
use Rattle.fx_base.proofs.Sums.{ticks_back, ticks_split}
use Rattle.series_enclose.specs.Enclosed.{IsSine, IsCosine}
use Rattle.series_enclose.specs.Series.{upper_sum, lower_sum, power_over, factorial, exponential_term, sine_term, cosine_term, pi, radians, sine_of, cosine_of, sine, cosine}
use Rattle.series_enclose.specs.Slant.{slant}
use Rattle.series_enclose.proofs.ArcSteps.{within_45}
use Rattle.series_enclose.proofs.Arcs.{radians_grow_high, arc_high_one, arc_low_one, cosine_lower_sinks}
use Rattle.series_enclose.proofs.Gaps.{half, sine_upper_gap, sine_lower_strict}
use Rattle.series_enclose.proofs.PiLaws.{pi_nested, pi_above_three}
use Rattle.series_enclose.proofs.Sizes.{sine_below}
use Rattle.series_enclose.proofs.SlantLaws.{sine_high_rises, cosine_low_falls, cosine_high_falls, IsBelowSlope, IsAboveSlope, square_times, square_strict}
use Rattle.angle_bracket.proofs.Candidates.{low_is_below, high_is_above, low_within}
use Rattle.angle_bracket.proofs.Neighbours.{tan_step}

-- ---- squares of ticks times a side

ticks_squares : (s x c y : ℕ) → (s * s) * x ≤ (c * c) * y → ((ticks s *ᶠ ticks s) *ᶠ whole x) ≤ᶠ ((ticks c *ᶠ ticks c) *ᶠ whole y)
unfolding ticks whole ◌*ᶠ◌
ticks_squares s x c y h = record { cross = omega arith }

squares_back : (s x c y : ℕ) → ((ticks s *ᶠ ticks s) *ᶠ whole x) ≤ᶠ ((ticks c *ᶠ ticks c) *ᶠ whole y) → (s * s) * x ≤ (c * c) * y
unfolding ticks whole ◌*ᶠ◌
squares_back s x c y h = let g = h.cross in omega arith

-- ---- a row whose tangent is at most the root of the slope is at most each upper end

positive_pi : (n : ℕ) → 0 < (pi n).lo.num
unfolding whole
positive_pi n = positive_above {a = whole 3} (zero-lt-suc 2) (pi_above_three n)

arc_strict : (p : Interval) (g h : Fraction) → 0 < p.lo.num → g <ᶠ h → (radians p g).lo <ᶠ (radians p h).lo
unfolding radians ratio
arc_strict p g h some lt = mul_lt_f (zero-lt-suc 0) (mul_lt_f some lt (le_refl_f p.lo)) (le_refl_f (ratio 1 180))

sine_low_strict : (n : ℕ) (g h : Fraction) → g <ᶠ h → h ≤ᶠ whole 45 → (sine n g).lo <ᶠ (sine n h).lo
unfolding sine sine_of
sine_low_strict n g h lt k =
    sine_lower_strict (radians (pi n) g).lo (radians (pi n) h).lo (arc_strict (pi n) g h (positive_pi n) lt) (arc_low_one n h k) n

above_no_row : (n m x y : ℕ) (h : Fraction) (s c : Ends) → m ≤ 45000000 → 0 < x → IsSine m s → IsCosine m c
    → (natural s.hi * natural s.hi) * x ≤ (natural c.lo * natural c.lo) * y → IsAboveSlope n x y h → h <ᶠ millionths m → ⊥
above_no_row n m x y h s c within p i j below a lt =
    let sines : (sine n h).lo <ᶠ ticks (natural s.hi) = lt_le_trans_f (sine_low_strict n h (millionths m) lt (within_45 m within)) (i.meets n).below in
    let cosines : ticks (natural c.lo) ≤ᶠ (cosine n h).hi = le_trans_f (j.meets n).above (cosine_high_falls n h (millionths m) (le_of_lt_f lt) (within_45 m within)) in
    le_lt_absurd_f (le_trans_f (ticks_squares (natural s.hi) x (natural c.lo) y below) (le_trans_f (square_times y cosines) a.squares)) (square_strict x p sines)

pub row_below : (m x y : ℕ) (s c : Ends) → m ≤ 45000000 → 0 < x → IsSine m s → IsCosine m c
    → (natural s.hi * natural s.hi) * x ≤ (natural c.lo * natural c.lo) * y → (n : ℕ) → millionths m ≤ᶠ (slant n x y).hi
row_below m x y s c within p i j below n = elim (high_is_above n x y) [
  | inr end ↦ le_trans_f (within_45 m within) end
  | inl a ↦ elim (lt_or_le_f (slant n x y).hi (millionths m)) [
    | inl lt ↦ absurd (above_no_row n m x y (slant n x y).hi s c within p i j below a lt)
    | inr le ↦ le
  ]
]

-- ---- where it isn't, each later angle is at least each lower end

-- half the arc of a millionth of a degree is more than 572 ticks
half_arcs : (p : Fraction) (m e : ℕ) → whole 3 ≤ᶠ p → 0 < e
    → (half ((millionths m *ᶠ p) *ᶠ ratio 1 180) +ᶠ ticks 572) ≤ᶠ half ((millionths (m + e) *ᶠ p) *ᶠ ratio 1 180)
unfolding half ticks millionths whole ratio ◌+ᶠ◌ ◌*ᶠ◌
half_arcs p m e h q =
    let three = h.cross in
    let some : p.num ≤ e * p.num = omega (arith, mul-le-mul_left p.num q) in
    let rise : 572 * (360000000 * p.den) ≤ (e * p.num) * 68719476736 = omega arith in
    record { cross = omega (arith, mul-le-mul_left p.den rise) }

arc_rises : (n m e : ℕ) → 0 < e → (half (radians (pi n) (millionths m)).hi +ᶠ ticks 572) ≤ᶠ half (radians (pi n) (millionths (m + e))).hi
unfolding radians
arc_rises n m e q = half_arcs (pi n).hi m e (le_trans_f (pi_above_three n) (pi_nested.order n)) q

millionths_le : (m k : ℕ) → m ≤ k → millionths m ≤ᶠ millionths k
unfolding millionths
millionths_le m k h = record { cross = omega arith }

-- so much does a sine rise
sine_step : (n m e : ℕ) → m + e ≤ 45000000 → 0 < e → ((sine n (millionths m)).hi +ᶠ ticks 572) ≤ᶠ (sine n (millionths (m + e))).hi
unfolding sine sine_of
sine_step n m e within q =
    let x = (radians (pi n) (millionths m)).hi in
    let y = (radians (pi n) (millionths (m + e))).hi in
    let u = upper_sum (sine_term x) n in
    let v = upper_sum (sine_term y) n in
    let gap = sine_upper_gap x y (radians_grow_high (pi n) (millionths m) (millionths (m + e)) (millionths_le m (m + e) (omega arith)))
    (arc_high_one n (millionths (m + e)) (within_45 (m + e) within)) n in
    add_cancel_f (u +ᶠ ticks 572) v (half x)
    (le_trans_f (add_swap_f u (ticks 572) (half x))
    (le_trans_f (add_right_f u (half x) (ticks 572))
    (le_trans_f (add_le_f (le_refl_f u) (arc_rises n m e q)) gap)))

-- a cosine of at most 45 degrees is at least 1/2
half_of_one : ticks 34359738368 ≤ᶠ lower_sum (cosine_term (whole 1)) 0
unfolding ◌+ᶠ◌ ◌-ᶠ◌ ◌*ᶠ◌ whole ratio power_over factorial exponential_term cosine_term upper_sum lower_sum ticks
half_of_one = record { cross = lit≤ tt }

cosine_from_half : (m : ℕ) → m ≤ 45000000 → ticks 34359738368 ≤ᶠ (cosine 0 (millionths m)).lo
unfolding cosine cosine_of
cosine_from_half m within =
    le_trans_f half_of_one
    (cosine_lower_sinks (radians (pi 0) (millionths m)).hi (whole 1) (arc_high_one 0 (millionths m) (within_45 m within)) (le_refl_f (whole 1)) 0)

-- spans in whole numbers
span_near : (lo hi : ℤ) → pos 0 ≤ℤ lo → hi ≤ℤ (lo +ℤ pos 16) → natural hi ≤ natural lo + 16
span_near (pos l) (pos h) p g = omega (arith, ints)
span_near (pos l) (negsuc h) p g = omega arith
span_near (negsuc l) h p g = absurd (omega (arith, ints))

cosine_high : (m : ℕ) (c : Ends) → m ≤ 45000000 → IsCosine m c → 34359738368 ≤ natural c.hi
cosine_high m c within j = ticks_back 34359738368 (natural c.hi) (le_trans_f (cosine_from_half m within) (j.meets 0).below)

cosine_low : (m : ℕ) (c : Ends) → m ≤ 45000000 → IsCosine m c → 34359738352 ≤ natural c.lo
cosine_low m c within j =
    let high = cosine_high m c within j in
    let near = span_near c.lo c.hi j.natural j.narrow in
    omega arith

below_no_later : (n m e x y : ℕ) (l : Fraction) (s c : Ends) → m + e ≤ 45000000 → 0 < e → IsSine m s → IsCosine m c
    → (natural c.lo * natural c.lo) * y < (natural s.hi * natural s.hi) * x → l ≤ᶠ whole 45 → IsBelowSlope n x y l → millionths (m + e) <ᶠ l → ⊥
below_no_later n m e x y l s c within q i j above k b lt =
    let at_m : m ≤ 45000000 = omega arith in
    let sines : ticks (natural s.lo + 572) ≤ᶠ (sine n l).hi =
    le_trans_f (ticks_split (natural s.lo) 572)
    (le_trans_f (add_le_f (i.meets n).above (le_refl_f (ticks 572)))
    (le_trans_f (sine_step n m e within q) (sine_high_rises n (millionths (m + e)) l (le_of_lt_f lt) k))) in
    let cosines : (cosine n l).lo ≤ᶠ ticks (natural c.hi) =
    le_trans_f (cosine_low_falls n (millionths m) l (le_trans_f (millionths_le m (m + e) (omega arith)) (le_of_lt_f lt)) k) (j.meets n).below in
    let numbers = squares_back (natural s.lo + 572) x (natural c.hi) y (le_trans_f (square_times x sines) (le_trans_f b.squares (square_times y cosines))) in
    let near_s = span_near s.lo s.hi i.natural i.narrow in
    let near_c = span_near c.lo c.hi j.natural j.narrow in
    let high = cosine_high m c at_m j in
    tan_step x y (natural s.hi) (natural c.lo) (natural s.lo + 572) (natural c.hi) (sine_below m s at_m i) (cosine_low m c at_m j)
    (omega arith) (omega arith) near_c above numbers

-- the width of a step: where the row at m isn't below the slope, the lower end at no depth passes m + e, for any step e
pub row_fails : (m e x y : ℕ) (s c : Ends) → m + e ≤ 45000000 → 0 < e → IsSine m s → IsCosine m c
    → (natural c.lo * natural c.lo) * y < (natural s.hi * natural s.hi) * x → (n : ℕ) → (slant n x y).lo ≤ᶠ millionths (m + e)
row_fails m e x y s c within q i j above n = elim (low_is_below n x y) [
  | inl none ↦ le_trans_f none (zero_le_f (millionths (m + e)))
  | inr b ↦ elim (lt_or_le_f (millionths (m + e)) (slant n x y).lo) [
    | inl lt ↦ absurd (below_no_later n m e x y (slant n x y).lo s c within q i j above (low_within n x y) b lt)
    | inr le ↦ le
  ]
]
