-- The enclosures of sine and cosine nest.
use Rattle.std.proofs.Common.{ℕ, suc, arith}
use Rattle.fx_base.specs.Fraction.{Fraction, ◌≤ᶠ◌, ◌*ᶠ◌, whole, ratio}
use Rattle.fx_base.specs.Interval.{Interval, InOrder, LiesIn}
use Rattle.fx_base.specs.Nesting.{IsNested}
use Rattle.fx_base.proofs.Order.{le_refl_f, le_trans_f, mul_le_f}
use Rattle.series_enclose.specs.Series.{upper_sum, lower_sum, sine_term, cosine_term, pi, radians, sine_of, cosine_of, sine, cosine}
use Rattle.series_enclose.proofs.Alternating.{upper_falls, lower_rises, lower_le_upper, lower_grows, upper_grows, lower_sinks, upper_sinks}
use Rattle.series_enclose.proofs.Terms.{sine_falls, cosine_falls, sine_pairs, cosine_pairs}
use Rattle.series_enclose.proofs.PiLaws.{pi_nested, pi_at_most_four}

-- an arc of g degrees narrows with pi, and is in order
pub radians_within : (p q : Interval) (g : Fraction) → LiesIn p q → LiesIn (radians p g) (radians q g)
unfolding radians
radians_within p q g h = record {
  lower = mul_le_f (mul_le_f (le_refl_f g) h.lower) (le_refl_f (ratio 1 180));
  upper = mul_le_f (mul_le_f (le_refl_f g) h.upper) (le_refl_f (ratio 1 180));
}

pub radians_in_order : (p : Interval) (g : Fraction) → InOrder p → InOrder (radians p g)
unfolding radians
radians_in_order p g h = mul_le_f (mul_le_f (le_refl_f g) h) (le_refl_f (ratio 1 180))

pub radians_grow : (p : Interval) (g h : Fraction) → g ≤ᶠ h → (radians p g).lo ≤ᶠ (radians p h).lo
unfolding radians
radians_grow p g h le = mul_le_f (mul_le_f le (le_refl_f p.lo)) (le_refl_f (ratio 1 180))

pub radians_grow_high : (p : Interval) (g h : Fraction) → g ≤ᶠ h → (radians p g).hi ≤ᶠ (radians p h).hi
unfolding radians
radians_grow_high p g h le = mul_le_f (mul_le_f le (le_refl_f p.hi)) (le_refl_f (ratio 1 180))

-- an arc of at most 45 degrees is at most 1
forty_five : ((whole 45 *ᶠ whole 4) *ᶠ ratio 1 180) ≤ᶠ whole 1
unfolding whole ratio ◌*ᶠ◌
forty_five = record { cross = omega arith }

arc_below_one : (p : Interval) (g : Fraction) → p.hi ≤ᶠ whole 4 → g ≤ᶠ whole 45 → (radians p g).hi ≤ᶠ whole 1
unfolding radians
arc_below_one p g h k = le_trans_f (mul_le_f (mul_le_f k h) (le_refl_f (ratio 1 180))) forty_five

pub arc_high_one : (n : ℕ) (g : Fraction) → g ≤ᶠ whole 45 → (radians (pi n) g).hi ≤ᶠ whole 1
arc_high_one n g h = arc_below_one (pi n) g (pi_at_most_four n) h

pub arc_order : (n : ℕ) (g : Fraction) → (radians (pi n) g).lo ≤ᶠ (radians (pi n) g).hi
arc_order n g = radians_in_order (pi n) g (pi_nested.order n)

pub arc_low_one : (n : ℕ) (g : Fraction) → g ≤ᶠ whole 45 → (radians (pi n) g).lo ≤ᶠ whole 1
arc_low_one n g h = le_trans_f (arc_order n g) (arc_high_one n g h)

pub arc_nests : (n : ℕ) (g : Fraction) → LiesIn (radians (pi (suc n)) g) (radians (pi n) g)
arc_nests n g = radians_within (pi (suc n)) (pi n) g (pi_nested.nests n)

-- ---- order in x

pub sine_lower_grows : (x y : Fraction) → x ≤ᶠ y → y ≤ᶠ whole 1 → (n : ℕ) → lower_sum (sine_term x) n ≤ᶠ lower_sum (sine_term y) n
sine_lower_grows x y h one = lower_grows (sine_term x) (sine_term y) (sine_pairs x y h one)

pub sine_upper_grows : (x y : Fraction) → x ≤ᶠ y → y ≤ᶠ whole 1 → (n : ℕ) → upper_sum (sine_term x) n ≤ᶠ upper_sum (sine_term y) n
sine_upper_grows x y h one = upper_grows (sine_term x) (sine_term y) (sine_pairs x y h one)

pub cosine_lower_sinks : (x y : Fraction) → x ≤ᶠ y → y ≤ᶠ whole 1 → (n : ℕ) → lower_sum (cosine_term y) n ≤ᶠ lower_sum (cosine_term x) n
cosine_lower_sinks x y h one = lower_sinks (cosine_term x) (cosine_term y) (cosine_falls y one) (cosine_pairs x y h one)

pub cosine_upper_sinks : (x y : Fraction) → x ≤ᶠ y → y ≤ᶠ whole 1 → (n : ℕ) → upper_sum (cosine_term y) n ≤ᶠ upper_sum (cosine_term x) n
cosine_upper_sinks x y h one = upper_sinks (cosine_term x) (cosine_term y) (cosine_falls y one) (cosine_pairs x y h one)

-- ---- nesting

sine_within : (x y : Interval) (n : ℕ) → LiesIn y x → y.lo ≤ᶠ whole 1 → x.hi ≤ᶠ whole 1 → y.hi ≤ᶠ whole 1 → LiesIn (sine_of y (suc n)) (sine_of x n)
unfolding sine_of
sine_within x y n h low high top = record {
  lower = le_trans_f (sine_lower_grows x.lo y.lo h.lower low n) (lower_rises (sine_term y.lo) (sine_falls y.lo low) n);
  upper = le_trans_f (upper_falls (sine_term y.hi) (sine_falls y.hi top) n) (sine_upper_grows y.hi x.hi h.upper high n);
}

sine_in_order : (x : Interval) (n : ℕ) → InOrder x → x.hi ≤ᶠ whole 1 → InOrder (sine_of x n)
unfolding sine_of
sine_in_order x n h one = le_trans_f (lower_le_upper (sine_term x.lo) n) (sine_upper_grows x.lo x.hi h one n)

-- the enclosures of a sine nest
pub sine_nested : (g : Fraction) → g ≤ᶠ whole 45 → IsNested (λ n. sine n g)
unfolding sine
sine_nested g h = record {
  nests = λ n. sine_within (radians (pi n) g) (radians (pi (suc n)) g) n (arc_nests n g) (arc_low_one (suc n) g h) (arc_high_one n g h) (arc_high_one (suc n) g h);
  order = λ n. sine_in_order (radians (pi n) g) n (arc_order n g) (arc_high_one n g h);
}

cosine_within : (x y : Interval) (n : ℕ) → LiesIn y x → y.lo ≤ᶠ whole 1 → x.hi ≤ᶠ whole 1 → y.hi ≤ᶠ whole 1 → LiesIn (cosine_of y (suc n)) (cosine_of x n)
unfolding cosine_of
cosine_within x y n h low high top = record {
  lower = le_trans_f (cosine_lower_sinks y.hi x.hi h.upper high n) (lower_rises (cosine_term y.hi) (cosine_falls y.hi top) n);
  upper = le_trans_f (upper_falls (cosine_term y.lo) (cosine_falls y.lo low) n) (cosine_upper_sinks x.lo y.lo h.lower low n);
}

cosine_in_order : (x : Interval) (n : ℕ) → InOrder x → x.hi ≤ᶠ whole 1 → InOrder (cosine_of x n)
unfolding cosine_of
cosine_in_order x n h one = le_trans_f (lower_le_upper (cosine_term x.hi) n) (cosine_upper_sinks x.lo x.hi h one n)

-- the enclosures of a cosine nest
pub cosine_nested : (g : Fraction) → g ≤ᶠ whole 45 → IsNested (λ n. cosine n g)
unfolding cosine
cosine_nested g h = record {
  nests = λ n. cosine_within (radians (pi n) g) (radians (pi (suc n)) g) n (arc_nests n g) (arc_low_one (suc n) g h) (arc_high_one n g h) (arc_high_one (suc n) g h);
  order = λ n. cosine_in_order (radians (pi n) g) n (arc_order n g) (arc_high_one n g h);
}
