-- What holds of the enclosures at every depth.
use Rattle.std.specs.Prelude.{ℕ, ◌+◌, ◌*◌, ◌^◌, ◌<◌}
use Rattle.fx_base.specs.Fraction.{Fraction, ◌≤ᶠ◌, ◌+ᶠ◌, ◌*ᶠ◌, whole, ratio}
use Rattle.fx_base.specs.Nesting.{IsNested}
use Rattle.series_enclose.specs.Series.{upper_sum, lower_sum, arctan_term, one_fifth, one_of_239, factorial, sine_term, cosine_term, pi, radians, sine, cosine}
use Rattle.series_enclose.specs.Slant.{slant}

-- ---- each enclosure lies in the one before, and its ends are in order

abbrev pub PiNests : Type 0
PiNests = IsNested pi

abbrev pub SineNests : Type 0
SineNests = (g : Fraction) → g ≤ᶠ whole 45 → IsNested (λ n. sine n g)

abbrev pub CosineNests : Type 0
CosineNests = (g : Fraction) → g ≤ᶠ whole 45 → IsNested (λ n. cosine n g)

-- the angle of the slope y / x, for positive x
abbrev pub SlantNests : Type 0
SlantNests = (x y : ℕ) → 0 < x → IsNested (λ n. slant n x y)

-- no lower end at one depth passes an upper end at any depth
abbrev pub SlantRises : Type 0
SlantRises = (n m x y : ℕ) → 0 < x → (slant n x y).lo ≤ᶠ (slant m x y).hi

-- ---- how wide they are

-- 4 / 25^(2n + 1)
abbrev pub PiNarrows : Type 0
PiNarrows = (n : ℕ) → (pi n).hi ≤ᶠ ((pi n).lo +ᶠ ratio 4 (25 ^ (2 * n + 1)))

-- 1 / (4n + 2)! + 1 / 25^(2n + 1)
unfoldable pub narrowing : ℕ → Fraction
narrowing n = ratio 1 (factorial (4 * n + 2)) +ᶠ ratio 1 (25 ^ (2 * n + 1))

abbrev pub SineNarrows : Type 0
SineNarrows = (n : ℕ) (g : Fraction) → g ≤ᶠ whole 45 → (sine n g).hi ≤ᶠ ((sine n g).lo +ᶠ narrowing n)

abbrev pub CosineNarrows : Type 0
CosineNarrows = (n : ℕ) (g : Fraction) → g ≤ᶠ whole 45 → (cosine n g).hi ≤ᶠ ((cosine n g).lo +ᶠ narrowing n)

-- ---- no difference in the definitions is cut at 0: what is taken away is at most what stands

abbrev pub IsUncut : (ℕ → Fraction) → Type 0
IsUncut term = (n : ℕ) → term (2 * n + 1) ≤ᶠ upper_sum term n

abbrev pub ArctanIsUncut : Type 0
ArctanIsUncut = IsUncut (arctan_term one_fifth) × IsUncut (arctan_term one_of_239)

pub record IsMachinUncut (n : ℕ) : Type 0 where
  pub lower_end : (whole 4 *ᶠ upper_sum (arctan_term one_of_239) n) ≤ᶠ (whole 16 *ᶠ lower_sum (arctan_term one_fifth) n)
  pub upper_end : (whole 4 *ᶠ lower_sum (arctan_term one_of_239) n) ≤ᶠ (whole 16 *ᶠ upper_sum (arctan_term one_fifth) n)

abbrev pub PiIsUncut : Type 0
PiIsUncut = (n : ℕ) → IsMachinUncut n

abbrev pub SineIsUncut : Type 0
SineIsUncut = (depth : ℕ) (g : Fraction) → g ≤ᶠ whole 45
    → IsUncut (sine_term (radians (pi depth) g).lo) × IsUncut (sine_term (radians (pi depth) g).hi)

abbrev pub CosineIsUncut : Type 0
CosineIsUncut = (depth : ℕ) (g : Fraction) → g ≤ᶠ whole 45
    → IsUncut (cosine_term (radians (pi depth) g).lo) × IsUncut (cosine_term (radians (pi depth) g).hi)
