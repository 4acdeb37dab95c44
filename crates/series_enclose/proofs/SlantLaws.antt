-- The enclosures of the angle of a slope: they nest, and no lower end passes an upper end at any depth.
use Rattle.std.proofs.Common.{ℕ, zero, suc, ◌*◌, ◌^◌, ◌<◌, ◌≤◌, ◌≡◌, ◌⊎◌, inl, inr, true, arith}
use Rattle.std.proofs.Math.Nat.{pow-suc, zero-lt-suc}
use Rattle.fx_base.specs.Fraction.{Fraction, ◌≤ᶠ◌, ◌<ᶠ◌, ◌*ᶠ◌, whole, ratio}
use Rattle.fx_base.specs.Interval.{Interval}
use Rattle.fx_base.specs.Nesting.{IsNested}
use Rattle.fx_base.specs.Search.{greatest, least}
use Rattle.fx_base.specs.Root.{halved}
use Rattle.fx_base.proofs.Order.{le_refl_f, le_trans_f, le_lt_trans_f, le_lt_absurd_f, lt_or_le_f, le_of_lt_f, mul_le_f, mul_lt_f, zero_le_f, at_most_le, at_most_true}
use Rattle.fx_base.proofs.Near.{any_depths}
use Rattle.fx_base.proofs.SearchLaws.{greatest_within, greatest_passes, greatest_most, least_within, least_passes, least_least}
use Rattle.fx_base.proofs.RootLaws.{halved_le, halved_twice, twice_halved}
use Rattle.series_enclose.specs.Series.{upper_sum, sine_term, pi, radians, sine_of, cosine_of, sine, cosine}
use Rattle.series_enclose.specs.Slant.{is_below_slope, is_above_slope, slant_with, slant}
use Rattle.series_enclose.proofs.Alternating.{upper_falls_to}
use Rattle.series_enclose.proofs.Terms.{sine_falls}
use Rattle.series_enclose.proofs.PiLaws.{pi_nested, pi_above_three}
use Rattle.series_enclose.proofs.Arcs.{radians_grow, radians_grow_high, arc_high_one, arc_low_one, sine_nested, cosine_nested, sine_upper_grows, sine_lower_grows, cosine_lower_sinks, cosine_upper_sinks}
use Rattle.series_enclose.proofs.Widths.{sine_first}
use Rattle.series_enclose.proofs.Gaps.{sine_upper_strict}

-- ---- order in the angle, at one depth

pub sine_high_rises : (n : ℕ) (g h : Fraction) → g ≤ᶠ h → h ≤ᶠ whole 45 → (sine n g).hi ≤ᶠ (sine n h).hi
unfolding sine sine_of
sine_high_rises n g h le k = sine_upper_grows (radians (pi n) g).hi (radians (pi n) h).hi (radians_grow_high (pi n) g h le) (arc_high_one n h k) n

pub sine_low_rises : (n : ℕ) (g h : Fraction) → g ≤ᶠ h → h ≤ᶠ whole 45 → (sine n g).lo ≤ᶠ (sine n h).lo
unfolding sine sine_of
sine_low_rises n g h le k = sine_lower_grows (radians (pi n) g).lo (radians (pi n) h).lo (radians_grow (pi n) g h le) (arc_low_one n h k) n

pub cosine_low_falls : (n : ℕ) (g h : Fraction) → g ≤ᶠ h → h ≤ᶠ whole 45 → (cosine n h).lo ≤ᶠ (cosine n g).lo
unfolding cosine cosine_of
cosine_low_falls n g h le k = cosine_lower_sinks (radians (pi n) g).hi (radians (pi n) h).hi (radians_grow_high (pi n) g h le) (arc_high_one n h k) n

pub cosine_high_falls : (n : ℕ) (g h : Fraction) → g ≤ᶠ h → h ≤ᶠ whole 45 → (cosine n h).hi ≤ᶠ (cosine n g).hi
unfolding cosine cosine_of
cosine_high_falls n g h le k = cosine_upper_sinks (radians (pi n) g).lo (radians (pi n) h).lo (radians_grow (pi n) g h le) (arc_low_one n h k) n

-- the sines rise strictly
positive_three : (a : Fraction) → whole 3 ≤ᶠ a → 0 < a.num
unfolding whole
positive_three a h = let g = h.cross in let p = a.positive in omega arith

arc_strict : (p : Interval) (g h : Fraction) → 0 < p.hi.num → g <ᶠ h → (radians p g).hi <ᶠ (radians p h).hi
unfolding radians ratio
arc_strict p g h pos lt = mul_lt_f (zero-lt-suc 0) (mul_lt_f pos lt (le_refl_f p.hi)) (le_refl_f (ratio 1 180))

pub sine_high_strict : (n : ℕ) (g h : Fraction) → g <ᶠ h → h ≤ᶠ whole 45 → (sine n g).hi <ᶠ (sine n h).hi
unfolding sine sine_of
sine_high_strict n g h lt k =
    sine_upper_strict (radians (pi n) g).hi (radians (pi n) h).hi
    (arc_strict (pi n) g h (positive_three (pi n).hi (le_trans_f (pi_above_three n) (pi_nested.order n))) lt) (arc_high_one n h k) n

-- ---- the two tests

pub record IsBelowSlope (n x y : ℕ) (g : Fraction) : Type 0 where
  pub squares : (((sine n g).hi *ᶠ (sine n g).hi) *ᶠ whole x) ≤ᶠ (((cosine n g).lo *ᶠ (cosine n g).lo) *ᶠ whole y)

pub record IsAboveSlope (n x y : ℕ) (g : Fraction) : Type 0 where
  pub squares : (((cosine n g).hi *ᶠ (cosine n g).hi) *ᶠ whole y) ≤ᶠ (((sine n g).lo *ᶠ (sine n g).lo) *ᶠ whole x)

pub below_is : (n x y : ℕ) (g : Fraction) → is_below_slope (pi n) n x y g ≡ true → IsBelowSlope n x y g
unfolding is_below_slope sine cosine
below_is n x y g e = record {
  squares = at_most_le ((((sine n g).hi) *ᶠ ((sine n g).hi)) *ᶠ whole x) ((((cosine n g).lo) *ᶠ ((cosine n g).lo)) *ᶠ whole y) e;
}

is_below : (n x y : ℕ) (g : Fraction) → IsBelowSlope n x y g → is_below_slope (pi n) n x y g ≡ true
unfolding is_below_slope sine cosine
is_below n x y g h = at_most_true h.squares

pub above_is : (n x y : ℕ) (g : Fraction) → is_above_slope (pi n) n x y g ≡ true → IsAboveSlope n x y g
unfolding is_above_slope sine cosine
above_is n x y g e = record {
  squares = at_most_le ((((cosine n g).hi) *ᶠ ((cosine n g).hi)) *ᶠ whole y) ((((sine n g).lo) *ᶠ ((sine n g).lo)) *ᶠ whole x) e;
}

is_above : (n x y : ℕ) (g : Fraction) → IsAboveSlope n x y g → is_above_slope (pi n) n x y g ≡ true
unfolding is_above_slope sine cosine
is_above n x y g h = at_most_true h.squares

-- what is below at one depth is below at the next, and so is what isn't greater
pub square_times : {a b : Fraction} (x : ℕ) → a ≤ᶠ b → ((a *ᶠ a) *ᶠ whole x) ≤ᶠ ((b *ᶠ b) *ᶠ whole x)
square_times x h = mul_le_f (mul_le_f h h) (le_refl_f (whole x))

below_later : (n x y : ℕ) (g h : Fraction) → g ≤ᶠ h → h ≤ᶠ whole 45 → IsBelowSlope n x y h → IsBelowSlope (suc n) x y g
below_later n x y g h le k b =
    let within = le_trans_f le k in
    record {
      squares = le_trans_f (square_times x (le_trans_f ((sine_nested g within).nests n).upper (sine_high_rises n g h le k)))
          (le_trans_f b.squares (square_times y (le_trans_f (cosine_low_falls n g h le k) ((cosine_nested g within).nests n).lower)));
    }

above_later : (n x y : ℕ) (g h : Fraction) → g ≤ᶠ h → h ≤ᶠ whole 45 → IsAboveSlope n x y g → IsAboveSlope (suc n) x y h
above_later n x y g h le k a = record {
  squares = le_trans_f (square_times y (le_trans_f ((cosine_nested h k).nests n).upper (cosine_high_falls n g h le k)))
      (le_trans_f a.squares (square_times x (le_trans_f (sine_low_rises n g h le k) ((sine_nested h k).nests n).lower)));
}

-- ---- candidates

pub candidate_45 : (n j : ℕ) → j ≤ 45 * 2 ^ n → halved n j ≤ᶠ whole 45
unfolding halved whole
candidate_45 n j h = record { cross = omega arith }

pub end_is_45 : (n j : ℕ) → 45 * 2 ^ n ≤ j → whole 45 ≤ᶠ halved n j
unfolding halved whole
end_is_45 n j h = record { cross = omega arith }

-- 0 is below each slope
nothing : (n : ℕ) → halved n 0 ≤ᶠ whole 0
unfolding halved whole
nothing n = record { cross = omega arith }

no_arc : (a : Fraction) → ((whole 0 *ᶠ a) *ᶠ ratio 1 180) ≤ᶠ whole 0
unfolding whole ratio ◌*ᶠ◌
no_arc a = record { cross = omega arith }

zero_arc : (p : Interval) (g : Fraction) → g ≤ᶠ whole 0 → (radians p g).hi ≤ᶠ whole 0
unfolding radians
zero_arc p g h = le_trans_f (mul_le_f (mul_le_f h (le_refl_f p.hi)) (le_refl_f (ratio 1 180))) (no_arc p.hi)

sum_start : (x : Fraction) → upper_sum (sine_term x) 0 ≤ᶠ x
unfolding upper_sum
sum_start x = sine_first x

zero_square : (x : ℕ) → ((whole 0 *ᶠ whole 0) *ᶠ whole x) ≤ᶠ whole 0
unfolding whole ◌*ᶠ◌
zero_square x = record { cross = omega arith }

zero_sine : (n : ℕ) → (sine n (halved n 0)).hi ≤ᶠ whole 0
unfolding sine sine_of
zero_sine n =
    let x = (radians (pi n) (halved n 0)).hi in
    let small = arc_high_one n (halved n 0) (le_trans_f (nothing n) (zero_le_f (whole 45))) in
    le_trans_f (upper_falls_to (sine_term x) (sine_falls x small) n) (le_trans_f (sum_start x) (zero_arc (pi n) (halved n 0) (nothing n)))

zero_below : (n x y : ℕ) → is_below_slope (pi n) n x y (halved n 0) ≡ true
zero_below n x y = is_below n x y (halved n 0) (record {
  squares = le_trans_f (square_times x (zero_sine n)) (le_trans_f (zero_square x) (zero_le_f (((cosine n (halved n 0)).lo *ᶠ (cosine n (halved n 0)).lo) *ᶠ whole y)));
})

low_of : (n x y : ℕ) → ℕ
low_of n x y = greatest (λ j. is_below_slope (pi n) n x y (halved n j)) (45 * 2 ^ n)

high_of : (n x y : ℕ) → ℕ
high_of n x y = least (λ j. is_above_slope (pi n) n x y (halved n j)) (45 * 2 ^ n) 0

-- ---- no lower end passes an upper end

above_positive : (a b : Fraction) → a <ᶠ b → 0 < b.num
above_positive a b h = positive_of a.num a.den b.num b.den h.cross
  where
    positive_of : (a A b B : ℕ) → a * B < b * A → 0 < b
    positive_of a A zero B h = absurd (omega arith)
    positive_of a A (suc b) B h = omega arith

pub square_strict : {a b : Fraction} (x : ℕ) → 0 < x → a <ᶠ b → ((a *ᶠ a) *ᶠ whole x) <ᶠ ((b *ᶠ b) *ᶠ whole x)
unfolding whole
square_strict {a} {b} x p h =
    mul_lt_f p (le_lt_trans_f (mul_le_f (le_refl_f a) (le_of_lt_f h)) (mul_lt_f (above_positive a b h) h (le_refl_f b))) (le_refl_f (whole x))

never_cross : (n m x y : ℕ) (g h : Fraction) → 0 < x → g ≤ᶠ whole 45 → h ≤ᶠ whole 45 → IsBelowSlope n x y g → IsAboveSlope m x y h → g ≤ᶠ h
never_cross n m x y g h p k l b a = elim (lt_or_le_f h g) [
  | inl lt ↦
      let s : (sine m h).lo <ᶠ (sine n g).hi = le_lt_trans_f (any_depths (λ i. sine i h) (sine_nested h l) m n) (sine_high_strict n h g lt k) in
      let c : (cosine n g).lo ≤ᶠ (cosine m h).hi = le_trans_f (cosine_low_falls n h g (le_of_lt_f lt) k) (any_depths (λ i. cosine i h) (cosine_nested h l) n m) in
      absurd (le_lt_absurd_f (le_trans_f b.squares (le_trans_f (square_times y c) a.squares)) (square_strict x p s))
  | inr le ↦ le
]

low_below : (n x y : ℕ) → IsBelowSlope n x y (halved n (low_of n x y))
unfolding low_of
low_below n x y = below_is n x y (halved n (low_of n x y)) (greatest_passes (λ j. is_below_slope (pi n) n x y (halved n j)) (45 * 2 ^ n) (zero_below n x y))

low_within : (n x y : ℕ) → low_of n x y ≤ 45 * 2 ^ n
unfolding low_of
low_within n x y = greatest_within (λ j. is_below_slope (pi n) n x y (halved n j)) (45 * 2 ^ n)

high_within : (n x y : ℕ) → high_of n x y ≤ 45 * 2 ^ n
unfolding high_of
high_within n x y = let h = least_within (λ j. is_above_slope (pi n) n x y (halved n j)) (45 * 2 ^ n) 0 in omega arith

high_above : (n x y : ℕ) → IsAboveSlope n x y (halved n (high_of n x y)) ⊎ (high_of n x y ≡ 45 * 2 ^ n)
unfolding high_of
high_above n x y = elim (least_passes (λ j. is_above_slope (pi n) n x y (halved n j)) (45 * 2 ^ n) 0) [
  | inl e ↦ inl (above_is n x y (halved n (high_of n x y)) e)
  | inr e ↦ inr (omega arith)
]

ends_in_order : (n m x y : ℕ) → 0 < x → halved n (low_of n x y) ≤ᶠ halved m (high_of m x y)
ends_in_order n m x y p =
    let low = candidate_45 n (low_of n x y) (low_within n x y) in
    elim (high_above m x y) [
      | inl a ↦ never_cross n m x y (halved n (low_of n x y)) (halved m (high_of m x y)) p low (candidate_45 m (high_of m x y) (high_within m x y)) (low_below n x y) a
      | inr e ↦ le_trans_f low (end_is_45 m (high_of m x y) (omega arith))
    ]

-- a lower end at one depth is at most an upper end at any depth
pub slant_any_depths : (n m x y : ℕ) → 0 < x → (slant n x y).lo ≤ᶠ (slant m x y).hi
unfolding slant slant_with low_of high_of
slant_any_depths n m x y p = ends_in_order n m x y p

-- ---- nesting: candidate j at one depth is candidate 2 j at the next

twice_bound : (n j : ℕ) → j ≤ 45 * 2 ^ n → 2 * j ≤ 45 * 2 ^ suc n
twice_bound n j h = rw pow-suc (omega arith)

low_doubles : (n x y : ℕ) → 2 * low_of n x y ≤ low_of (suc n) x y
unfolding low_of
low_doubles n x y =
    let j = low_of n x y in
    let bound = low_within n x y in
    greatest_most (λ j. is_below_slope (pi (suc n)) (suc n) x y (halved (suc n) j)) (45 * 2 ^ suc n) (2 * j) (twice_bound n j bound)
    (is_below (suc n) x y (halved (suc n) (2 * j))
    (below_later n x y (halved (suc n) (2 * j)) (halved n j) (twice_halved n j) (candidate_45 n j bound) (low_below n x y)))

high_doubles : (n x y : ℕ) → high_of (suc n) x y ≤ 2 * high_of n x y
unfolding high_of
high_doubles n x y =
    let j = high_of n x y in
    let bound = high_within n x y in
    elim (high_above n x y) [
      | inl a ↦ least_least (λ j. is_above_slope (pi (suc n)) (suc n) x y (halved (suc n) j)) (45 * 2 ^ suc n) 0 (2 * j) (omega arith)
          (is_above (suc n) x y (halved (suc n) (2 * j))
          (above_later n x y (halved n j) (halved (suc n) (2 * j)) (halved_twice n j) (candidate_45 (suc n) (2 * j) (twice_bound n j bound)) a))
      | inr e ↦ let h = high_within (suc n) x y in let f : 45 * 2 ^ suc n ≡ 2 * (45 * 2 ^ n) = rw pow-suc (omega arith) in omega arith
    ]

-- the enclosures of a slant nest
pub slant_nested : (x y : ℕ) → 0 < x → IsNested (λ n. slant n x y)
unfolding slant slant_with low_of high_of
slant_nested x y p = record {
  nests = λ n. record {
    lower = le_trans_f (halved_twice n (low_of n x y)) (halved_le (suc n) (2 * low_of n x y) (low_of (suc n) x y) (low_doubles n x y));
    upper = le_trans_f (halved_le (suc n) (high_of (suc n) x y) (2 * high_of n x y) (high_doubles n x y)) (twice_halved n (high_of n x y));
  };
  order = λ n. ends_in_order n n x y p;
}
