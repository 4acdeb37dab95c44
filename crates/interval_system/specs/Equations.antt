-- The radiosity equations over fractions: n patches, the coefficient k i j with which patch j lights patch i, and the direct light d i.
use Rattle.std.specs.Prelude.{ℕ, zero, suc, ◌*◌, ◌/◌, ◌<◌, ◌≡◌}
use Rattle.fx_base.specs.Fraction.{Fraction, ◌<ᶠ◌, ◌≈ᶠ◌, ◌+ᶠ◌, ◌*ᶠ◌, whole, ratio, sum_to}
use Rattle.interval_system.specs.Whole.{denominator, numerator}

-- the light at a place: its direct light d, and what the n patches of light h send there by the coefficients k
unfoldable pub value_by : ℕ → Fraction → (ℕ → Fraction) → (ℕ → Fraction) → Fraction
value_by n d k h = d +ᶠ sum_to n (λ j. k j *ᶠ h j)

-- the light of each patch is its direct light and what the others send there (Cohen and Wallace)
pub record SolvesEquations (n : ℕ) (k : ℕ → ℕ → Fraction) (d h : ℕ → Fraction) : Type 0 where
  pub row : (i : ℕ) → i < n → h i ≈ᶠ value_by n (d i) (k i) h

-- the coefficients of each patch add up to less than one
pub record RowsBelowOne (n : ℕ) (k : ℕ → ℕ → Fraction) : Type 0 where
  pub row : (i : ℕ) → i < n → sum_to n (k i) <ᶠ whole 1

-- ---- the solution, by elimination in whole numbers over one denominator

-- f 0 * .. * f (n - 1)
unfoldable pub product_to : ℕ → (ℕ → ℕ) → ℕ
product_to zero f = 1
product_to (suc n) f = product_to n f * f n

unfoldable pub common_denominator : ℕ → (ℕ → ℕ → Fraction) → (ℕ → Fraction) → ℕ
common_denominator n k d = product_to n (λ i. product_to n (λ j. (k i j).den) * (d i).den)

-- the numerator of a over the denominator q
unfoldable pub over : ℕ → Fraction → ℕ
over q a = a.num * (q / a.den)

unfoldable pub solution : ℕ → (ℕ → ℕ → Fraction) → (ℕ → Fraction) → ℕ → Fraction
solution n k d i =
    let q : ℕ = common_denominator n k d in
    let coefficient : ℕ → ℕ → ℕ = λ i j. over q (k i j) in
    ratio (numerator n q coefficient (λ i. over q (d i)) i) (denominator n q coefficient)

-- the same equations in whole numbers, over the denominator q
pub record IsOver (n q : ℕ) (kk : ℕ → ℕ → ℕ) (ee : ℕ → ℕ) (k : ℕ → ℕ → Fraction) (d : ℕ → Fraction) : Type 0 where
  pub positive : 0 < q
  pub coefficient : (i j : ℕ) → i < n → j < n → kk i j * (k i j).den ≡ (k i j).num * q
  pub light : (i : ℕ) → i < n → ee i * (d i).den ≡ (d i).num * q
