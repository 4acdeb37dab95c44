-- From an angle in millionths of a degree to the first terms of its sine and cosine in ticks.
use Rattle.std.proofs.Common.{ℕ, ◌+◌, ◌*◌, ◌^◌, ◌<◌, ◌≤◌, ◌≡◌, arith, refl}
use Rattle.std.proofs.Math.Nat.{mul-le-mul, pow-suc, pow-zero, one-mul, lt_of_mul-lt-mul_left}
use Rattle.fx_base.specs.Fraction.{Fraction, ◌≤ᶠ◌, ◌*ᶠ◌, whole, ratio}
use Rattle.fx_base.specs.Interval.{Meets}
use Rattle.fx_base.specs.Units.{ticks, millionths, ticks_between}
use Rattle.fx_base.proofs.Order.{le_refl_f, le_trans_f, mul_le_f}
use Rattle.fx_base.proofs.Near.{one_depth_meets}
use Rattle.series_enclose.specs.Series.{upper_sum, lower_sum, power_over, factorial, exponential_term, sine_term, cosine_term, pi, radians, sine_of, cosine_of, sine, cosine}
use Rattle.series_enclose.specs.Turns.{IsProduct, series_term, IsBetween, IsStart, IsSum}
use Rattle.series_enclose.proofs.Alternating.{lower_rises, upper_falls, upper_sum_same}
use Rattle.series_enclose.proofs.Terms.{sine_falls, cosine_falls}
use Rattle.series_enclose.proofs.PiLaws.{pi_above, pi_below}
use Rattle.series_enclose.proofs.Arcs.{sine_nested, cosine_nested, arc_order, arc_high_one, arc_low_one}
use Rattle.series_enclose.proofs.TermSums.{next_between, product_width}

-- ---- the arc

arc_low_ticks : (angle lo : ℕ) → lo * 180000000 ≤ angle * 215888603272 → ticks lo ≤ᶠ ((millionths angle *ᶠ ticks 215888603272) *ᶠ ratio 1 180)
unfolding ticks millionths ratio ◌*ᶠ◌
arc_low_ticks angle lo h = record { cross = omega arith }

arc_high_ticks : (angle hi : ℕ) → angle * 215888603273 ≤ hi * 180000000 → ((millionths angle *ᶠ ticks 215888603273) *ᶠ ratio 1 180) ≤ᶠ ticks hi
unfolding ticks millionths ratio ◌*ᶠ◌
arc_high_ticks angle hi h = record { cross = omega arith }

pub arc_low : (angle lo : ℕ) → lo * 180000000 ≤ angle * 215888603272 → ticks lo ≤ᶠ (radians (pi 4) (millionths angle)).lo
unfolding radians
arc_low angle lo h = le_trans_f (arc_low_ticks angle lo h) (mul_le_f (mul_le_f (le_refl_f (millionths angle)) pi_above) (le_refl_f (ratio 1 180)))

pub arc_high : (angle hi : ℕ) → angle * 215888603273 ≤ hi * 180000000 → (radians (pi 4) (millionths angle)).hi ≤ᶠ ticks hi
unfolding radians
arc_high angle hi h = le_trans_f (mul_le_f (mul_le_f (le_refl_f (millionths angle)) pi_below) (le_refl_f (ratio 1 180))) (arc_high_ticks angle hi h)

pub within_45 : (angle : ℕ) → angle ≤ 45000000 → millionths angle ≤ᶠ whole 45
unfolding millionths whole
within_45 angle h = record { cross = omega arith }

-- ---- widths and sizes

pub square_width : (al ah sl sh : ℕ) → ah ≤ al + 2 → al ≤ ah → ah ≤ 53972150819 → IsProduct 1 al ah al ah sl sh → sh ≤ sl + 5
square_width al ah sl sh n o b p =
    let m = mul-le-mul {n₁ = ah} {m₁ = ah} {n₂ = al + 2} {m₂ = al + 2} n n in
    product_width 4 1 al ah al ah sl sh p (omega (arith, m))

size_core : (W q b rh : ℕ) → rh * W < q + W → q ≤ b * W → rh ≤ b
size_core W q b rh g h =
    let l : W * rh < W * (b + 1) = omega arith in
    let k : rh < b + 1 = lt_of_mul-lt-mul_left W l in
    omega arith

pub square_below : (al ah sl sh : ℕ) → ah ≤ 53972150819 → IsProduct 1 al ah al ah sl sh → sh ≤ 68719476736
square_below al ah sl sh b p =
    let m = mul-le-mul {n₁ = ah} {m₁ = ah} {n₂ = 68719476736} {m₂ = 68719476736} (omega arith) (omega arith) in
    size_core (68719476736 * 1) (ah * ah) 68719476736 sh p.high_near (omega (arith, m))

pub cube_width : (al ah sl sh cl ch : ℕ) → ah ≤ al + 2 → al ≤ ah → ah ≤ 53972150819 → sl ≤ sh → sh ≤ 68719476736 → sh ≤ sl + 5
    → IsProduct 6 al ah sl sh cl ch → ch ≤ cl + 2
cube_width al ah sl sh cl ch n o b so sb sn p =
    let m = mul-le-mul {n₁ = ah} {m₁ = sh} {n₂ = al + 2} {m₂ = sl + 5} n sn in
    product_width 1 6 al ah sl sh cl ch p (omega (arith, m))

pub cube_below : (al ah sl sh cl ch : ℕ) → ah ≤ 53972150819 → sh ≤ 68719476736 → IsProduct 6 al ah sl sh cl ch → ch ≤ 34359738368
cube_below al ah sl sh cl ch b sb p =
    let m = mul-le-mul {n₁ = ah} {m₁ = sh} {n₂ = 68719476736} {m₂ = 68719476736} (omega arith) sb in
    size_core (68719476736 * 6) (ah * sh) 34359738368 ch p.high_near (omega (arith, m))

pub half_square_width : (sl sh cl ch : ℕ) → sh ≤ sl + 5 → IsProduct 2 68719476736 68719476736 sl sh cl ch → ch ≤ cl + 4
half_square_width sl sh cl ch sn p = product_width 3 2 68719476736 68719476736 sl sh cl ch p (omega arith)

pub half_square_below : (sl sh cl ch : ℕ) → sh ≤ 68719476736 → IsProduct 2 68719476736 68719476736 sl sh cl ch → ch ≤ 34359738368
half_square_below sl sh cl ch sb p = size_core (68719476736 * 2) (68719476736 * sh) 34359738368 ch p.high_near (omega arith)

-- ---- the first terms

square_ticks_low : (a s : ℕ) → s * (68719476736 * 1) ≤ a * a → ticks s ≤ᶠ (ticks a *ᶠ ticks a)
unfolding ticks ◌*ᶠ◌
square_ticks_low a s h = record { cross = omega arith }

square_ticks_high : (a s : ℕ) → a * a ≤ s * (68719476736 * 1) → (ticks a *ᶠ ticks a) ≤ᶠ ticks s
unfolding ticks ◌*ᶠ◌
square_ticks_high a s h = record { cross = omega arith }

square_between : (al ah sl sh : ℕ) (x : Fraction) → IsBetween al ah x → IsProduct 1 al ah al ah sl sh → IsBetween sl sh (x *ᶠ x)
square_between al ah sl sh x h p = record {
  low = le_trans_f (square_ticks_low al sl p.low) (mul_le_f h.low h.low);
  high = le_trans_f (mul_le_f h.high h.high) (square_ticks_high ah sh p.high);
}

power_one : (p : ℕ) → p ^ 1 ≡ p
power_one p = rw (pow-suc p 0, pow-zero) (one-mul p)

to_first : (x : Fraction) → x ≤ᶠ series_term 1 x 0
unfolding series_term exponential_term power_over factorial
to_first x = record { cross = rw (power_one x.num, power_one x.den) (omega arith) }

from_first : (x : Fraction) → series_term 1 x 0 ≤ᶠ x
unfolding series_term exponential_term power_over factorial
from_first x = record { cross = rw (power_one x.num, power_one x.den) (omega arith) }

-- x is its own first term, and 1 that of a cosine
first_sine : (al ah : ℕ) (x : Fraction) → IsBetween al ah x → IsBetween al ah (series_term 1 x 0)
first_sine al ah x h = record { low = le_trans_f h.low (to_first x); high = le_trans_f (from_first x) h.high }

first_cosine : (x : Fraction) → IsBetween 68719476736 68719476736 (series_term 0 x 0)
unfolding series_term exponential_term power_over ticks factorial
first_cosine x = record {
  low = record { cross = rw (pow-zero x.num, pow-zero x.den) (omega arith) };
  high = record { cross = rw (pow-zero x.num, pow-zero x.den) (omega arith) };
}

pub start_sine : (al ah sl sh cl ch : ℕ) (x : Fraction) → x ≤ᶠ whole 1 → IsBetween al ah x → IsProduct 1 al ah al ah sl sh
    → IsProduct 6 al ah sl sh cl ch → IsStart 1 al ah cl ch sl sh x
start_sine al ah sl sh cl ch x one h p q =
    let square = square_between al ah sl sh x h p in
    let first = first_sine al ah x h in
    record { small = one; square = square; first = first; second = next_between 1 0 1 6 al ah sl sh cl ch x refl refl q square first }

pub start_cosine : (al ah sl sh cl ch : ℕ) (x : Fraction) → x ≤ᶠ whole 1 → IsBetween al ah x → IsProduct 1 al ah al ah sl sh
    → IsProduct 2 68719476736 68719476736 sl sh cl ch → IsStart 0 68719476736 68719476736 cl ch sl sh x
start_cosine al ah sl sh cl ch x one h p q =
    let square = square_between al ah sl sh x h p in
    let first = first_cosine x in
    record { small = one; square = square; first = first; second = next_between 0 0 1 2 68719476736 68719476736 sl sh cl ch x refl refl q square first }

-- ---- the whole

-- the ends of the arc at depth 4 lie between those in ticks
pub record IsArc (angle lo hi : ℕ) : Type 0 where
  pub low : lo * 180000000 ≤ angle * 215888603272
  pub high : angle * 215888603273 ≤ hi * 180000000

arc_ends : (angle lo hi : ℕ) → IsArc angle lo hi → IsBetween lo hi (radians (pi 4) (millionths angle)).lo × IsBetween lo hi (radians (pi 4) (millionths angle)).hi
arc_ends angle lo hi h =
    let low = arc_low angle lo h.low in
    let high = arc_high angle hi h.high in
    let order = arc_order 4 (millionths angle) in
    (record { low = low; high = le_trans_f order high }, record { low = le_trans_f low order; high = high })

sine_sum_meets : (angle lo hi : ℕ) → angle ≤ 45000000
    → IsSum 1 lo hi (radians (pi 4) (millionths angle)).lo → IsSum 1 lo hi (radians (pi 4) (millionths angle)).hi
    → (n : ℕ) → Meets (ticks_between lo hi) (sine n (millionths angle))
unfolding sine sine_of series_term sine_term
sine_sum_meets angle lo hi h at_low at_high =
    let g = millionths angle in
    let within = within_45 angle h in
    one_depth_meets (λ n. sine n g) (sine_nested g within) (ticks_between lo hi) 4 4
    (le_trans_f at_low.low (lower_rises (sine_term (radians (pi 4) g).lo) (sine_falls (radians (pi 4) g).lo (arc_low_one 4 g within)) 3))
    (le_trans_f (upper_falls (sine_term (radians (pi 4) g).hi) (sine_falls (radians (pi 4) g).hi (arc_high_one 4 g within)) 3) at_high.high)

pub sine_meets : (angle al ah sl sh cl ch lo hi : ℕ) → angle ≤ 45000000 → IsArc angle al ah → IsProduct 1 al ah al ah sl sh → IsProduct 6 al ah sl sh cl ch
    → ((x : Fraction) → IsStart 1 al ah cl ch sl sh x → IsSum 1 lo hi x) → (n : ℕ) → Meets (ticks_between lo hi) (sine n (millionths angle))
sine_meets angle al ah sl sh cl ch lo hi h arc p q sum =
    let g = millionths angle in
    let within = within_45 angle h in
    let ends = arc_ends angle al ah arc in
    sine_sum_meets angle lo hi h
    (sum (radians (pi 4) g).lo (start_sine al ah sl sh cl ch (radians (pi 4) g).lo (arc_low_one 4 g within) (ends.0) p q))
    (sum (radians (pi 4) g).hi (start_sine al ah sl sh cl ch (radians (pi 4) g).hi (arc_high_one 4 g within) (ends.1) p q))

pub sine_narrow : (angle al ah sl sh cl ch lo hi : ℕ) → angle ≤ 45000000 → IsArc angle al ah → IsProduct 1 al ah al ah sl sh → IsProduct 6 al ah sl sh cl ch
    → ((x : Fraction) → IsStart 1 al ah cl ch sl sh x → hi ≤ lo + 16) → hi ≤ lo + 16
sine_narrow angle al ah sl sh cl ch lo hi h arc p q narrow =
    let g = millionths angle in
    narrow (radians (pi 4) g).lo (start_sine al ah sl sh cl ch (radians (pi 4) g).lo (arc_low_one 4 g (within_45 angle h)) ((arc_ends angle al ah arc).0) p q)

-- the same terms, written for the cosine
cosine_series : (x : Fraction) (k : ℕ) → series_term 0 x k ≡ cosine_term x k
unfolding series_term cosine_term
cosine_series x k = let e : 2 * k + 0 ≡ 2 * k = omega arith in rw e refl

cosine_sum : (lo hi : ℕ) (x : Fraction) → IsSum 0 lo hi x → (ticks lo ≤ᶠ lower_sum (cosine_term x) 3) × (upper_sum (cosine_term x) 3 ≤ᶠ ticks hi)
unfolding lower_sum
cosine_sum lo hi x h =
    let e = upper_sum_same (series_term 0 x) (cosine_term x) (cosine_series x) 3 in
    ((rw (e, cosine_series x 7) at h.low), (rw e at h.high))

cosine_sum_meets : (angle lo hi : ℕ) → angle ≤ 45000000
    → IsSum 0 lo hi (radians (pi 4) (millionths angle)).lo → IsSum 0 lo hi (radians (pi 4) (millionths angle)).hi
    → (n : ℕ) → Meets (ticks_between lo hi) (cosine n (millionths angle))
unfolding cosine cosine_of
cosine_sum_meets angle lo hi h at_low at_high =
    let g = millionths angle in
    let within = within_45 angle h in
    one_depth_meets (λ n. cosine n g) (cosine_nested g within) (ticks_between lo hi) 4 4
    (le_trans_f ((cosine_sum lo hi (radians (pi 4) g).hi at_high).0) (lower_rises (cosine_term (radians (pi 4) g).hi) (cosine_falls (radians (pi 4) g).hi (arc_high_one 4 g within)) 3))
    (le_trans_f (upper_falls (cosine_term (radians (pi 4) g).lo) (cosine_falls (radians (pi 4) g).lo (arc_low_one 4 g within)) 3) ((cosine_sum lo hi (radians (pi 4) g).lo at_low).1))

pub cosine_meets : (angle al ah sl sh cl ch lo hi : ℕ) → angle ≤ 45000000 → IsArc angle al ah → IsProduct 1 al ah al ah sl sh
    → IsProduct 2 68719476736 68719476736 sl sh cl ch
    → ((x : Fraction) → IsStart 0 68719476736 68719476736 cl ch sl sh x → IsSum 0 lo hi x) → (n : ℕ) → Meets (ticks_between lo hi) (cosine n (millionths angle))
cosine_meets angle al ah sl sh cl ch lo hi h arc p q sum =
    let g = millionths angle in
    let within = within_45 angle h in
    let ends = arc_ends angle al ah arc in
    cosine_sum_meets angle lo hi h
    (sum (radians (pi 4) g).lo (start_cosine al ah sl sh cl ch (radians (pi 4) g).lo (arc_low_one 4 g within) (ends.0) p q))
    (sum (radians (pi 4) g).hi (start_cosine al ah sl sh cl ch (radians (pi 4) g).hi (arc_high_one 4 g within) (ends.1) p q))

pub cosine_narrow : (angle al ah sl sh cl ch lo hi : ℕ) → angle ≤ 45000000 → IsArc angle al ah → IsProduct 1 al ah al ah sl sh
    → IsProduct 2 68719476736 68719476736 sl sh cl ch
    → ((x : Fraction) → IsStart 0 68719476736 68719476736 cl ch sl sh x → hi ≤ lo + 16) → hi ≤ lo + 16
cosine_narrow angle al ah sl sh cl ch lo hi h arc p q narrow =
    let g = millionths angle in
    narrow (radians (pi 4) g).lo (start_cosine al ah sl sh cl ch (radians (pi 4) g).lo (arc_low_one 4 g (within_45 angle h)) ((arc_ends angle al ah arc).0) p q)
