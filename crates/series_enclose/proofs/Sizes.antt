-- How great a sine and a cosine can be in ticks, so that a caller can bound its products.
use Rattle.std.proofs.Common.{ℕ, ◌≤◌, arith, ℤ, pos, negsuc, ◌≤ℤ◌, ◌+ℤ◌}
use Rattle.std.proofs.Math.Nat.{pow-zero}
use Rattle.std.proofs.lemmas.Int.{ints}
use Rattle.fx_base.specs.Ends.{Ends}
use Rattle.fx_base.specs.Fraction.{Fraction, ◌≤ᶠ◌, whole}
use Rattle.fx_base.specs.Interval.{Interval, Meets}
use Rattle.fx_base.specs.Units.{natural, millionths, of_span}
use Rattle.fx_base.proofs.Order.{le_trans_f}
use Rattle.fx_base.proofs.Sums.{ticks_back, whole_ticks}
use Rattle.series_enclose.specs.Enclosed.{IsSine, IsCosine}
use Rattle.series_enclose.specs.Series.{upper_sum, power_over, factorial, exponential_term, cosine_term, pi, radians, sine_of, cosine_of, sine, cosine}
use Rattle.series_enclose.proofs.Arcs.{arc_high_one}
use Rattle.series_enclose.proofs.ArcSteps.{within_45}
use Rattle.series_enclose.proofs.Widths.{sine_first}

sixteen_more : (lo hi : ℤ) → pos 0 ≤ℤ lo → hi ≤ℤ (lo +ℤ pos 16) → natural lo ≤ 68719476736 → natural hi ≤ 68719476752
sixteen_more (pos l) (pos h) p g k = omega (arith, ints)
sixteen_more (pos l) (negsuc h) p g k = omega arith
sixteen_more (negsuc l) h p g k = absurd (omega (arith, ints))

low_below : (s : Ends) (i : Interval) → Meets (of_span s) i → i.hi ≤ᶠ whole 1 → natural s.lo ≤ 68719476736
low_below s i m one = ticks_back (natural s.lo) 68719476736 (le_trans_f m.above (le_trans_f one (whole_ticks 1)))

sine_at_start : (g : Fraction) → g ≤ᶠ whole 45 → (sine 0 g).hi ≤ᶠ whole 1
unfolding sine sine_of upper_sum
sine_at_start g h = le_trans_f (sine_first (radians (pi 0) g).hi) (arc_high_one 0 g h)

first_is_one : (x : Fraction) → cosine_term x 0 ≤ᶠ whole 1
unfolding cosine_term exponential_term power_over factorial whole
first_is_one x = record { cross = rw (pow-zero x.num, pow-zero x.den) (omega arith) }

cosine_at_start : (g : Fraction) → (cosine 0 g).hi ≤ᶠ whole 1
unfolding cosine cosine_of upper_sum
cosine_at_start g = first_is_one (radians (pi 0) g).lo

pub sine_below : (angle : ℕ) (s : Ends) → angle ≤ 45000000 → IsSine angle s → natural s.hi ≤ 68719476752
sine_below angle s h i =
    sixteen_more s.lo s.hi i.natural i.narrow (low_below s (sine 0 (millionths angle)) (i.meets 0) (sine_at_start (millionths angle) (within_45 angle h)))

pub cosine_below : (angle : ℕ) (s : Ends) → IsCosine angle s → natural s.hi ≤ 68719476752
cosine_below angle s i =
    sixteen_more s.lo s.hi i.natural i.narrow (low_below s (cosine 0 (millionths angle)) (i.meets 0) (cosine_at_start (millionths angle)))
