-- The ends of the enclosure of a slope's angle are candidates that pass its tests, or the ends of the range.
use Rattle.std.proofs.Common.{ℕ, zero, suc, ◌*◌, ◌^◌, ◌≡◌, ◌⊎◌, inl, inr, Bool, true, arith, refl}
use Rattle.fx_base.specs.Fraction.{◌≤ᶠ◌, whole}
use Rattle.fx_base.specs.Search.{greatest, least}
use Rattle.fx_base.specs.Root.{halved}
use Rattle.fx_base.proofs.SearchLaws.{is_true_or_false, greatest_here, greatest_below, greatest_within, least_within, least_passes}
use Rattle.series_enclose.specs.Series.{pi}
use Rattle.series_enclose.specs.Slant.{is_below_slope, is_above_slope, slant_with, slant}
use Rattle.series_enclose.proofs.SlantLaws.{IsBelowSlope, IsAboveSlope, below_is, above_is, candidate_45, end_is_45}

-- the greatest number that passes does pass, or it is 0
greatest_or_zero : (test : ℕ → Bool) (k : ℕ) → (greatest test k ≡ 0) ⊎ (test (greatest test k) ≡ true)
unfolding greatest
greatest_or_zero test zero = inl refl
greatest_or_zero test (suc k) = elim (is_true_or_false (test (suc k))) [
  | inl t ↦ inr (rw (greatest_here test k t) t)
  | inr f ↦ rw (greatest_below test k f) (greatest_or_zero test k)
]

zero_candidate : (n j : ℕ) → j ≡ 0 → halved n j ≤ᶠ whole 0
unfolding halved whole
zero_candidate n j e = record { cross = omega arith }

-- the lower end is below the slope, or it is 0
pub low_is_below : (n x y : ℕ) → ((slant n x y).lo ≤ᶠ whole 0) ⊎ IsBelowSlope n x y (slant n x y).lo
unfolding slant slant_with
low_is_below n x y =
    let test : ℕ → Bool = λ j. is_below_slope (pi n) n x y (halved n j) in
    elim (greatest_or_zero test (45 * 2 ^ n)) [
      | inl e ↦ inl (zero_candidate n (greatest test (45 * 2 ^ n)) e)
      | inr t ↦ inr (below_is n x y (halved n (greatest test (45 * 2 ^ n))) t)
    ]

-- the upper end is above the slope, or it is 45
pub high_is_above : (n x y : ℕ) → IsAboveSlope n x y (slant n x y).hi ⊎ (whole 45 ≤ᶠ (slant n x y).hi)
unfolding slant slant_with
high_is_above n x y =
    let test : ℕ → Bool = λ j. is_above_slope (pi n) n x y (halved n j) in
    elim (least_passes test (45 * 2 ^ n) 0) [
      | inl t ↦ inl (above_is n x y (halved n (least test (45 * 2 ^ n) 0)) t)
      | inr e ↦ inr (end_is_45 n (least test (45 * 2 ^ n) 0) (omega arith))
    ]

pub low_within : (n x y : ℕ) → (slant n x y).lo ≤ᶠ whole 45
unfolding slant slant_with
low_within n x y =
    let test : ℕ → Bool = λ j. is_below_slope (pi n) n x y (halved n j) in
    candidate_45 n (greatest test (45 * 2 ^ n)) (greatest_within test (45 * 2 ^ n))

pub high_within : (n x y : ℕ) → (slant n x y).hi ≤ᶠ whole 45
unfolding slant slant_with
high_within n x y =
    let test : ℕ → Bool = λ j. is_above_slope (pi n) n x y (halved n j) in
    let h = least_within test (45 * 2 ^ n) 0 in
    candidate_45 n (least test (45 * 2 ^ n) 0) (omega arith)
