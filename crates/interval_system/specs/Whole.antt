-- The radiosity equations in whole numbers, over one denominator q: coefficients k i j / q and direct light e i / q; and their
-- solution by elimination of the last patch.
use Rattle.std.specs.Prelude.{ℕ, zero, suc, ◌+◌, ◌-◌, ◌*◌, ◌<◌, ◌≡◌, nat_lt, if◌then◌else◌, ℤ, pos, ◌+ℤ◌, ◌*ℤ◌}

-- f 0 + .. + f (n - 1)
abbrev pub total : ℕ → (ℕ → ℕ) → ℕ
total zero f = 0
total (suc n) f = total n f + f n

abbrev pub total_ℤ : ℕ → (ℕ → ℤ) → ℤ
total_ℤ zero f = pos 0
total_ℤ (suc n) f = total_ℤ n f +ℤ f n

-- the coefficients of each of the n patches add up to less than one
pub record IsBelowOne (n q : ℕ) (k : ℕ → ℕ → ℕ) : Type 0 where
  pub row : (i : ℕ) → i < n → total n (k i) < q

-- the light h i / m of each patch is its direct light and what the others send it: H = d + K H (Cohen and Wallace)
pub record IsSolution (n q : ℕ) (k : ℕ → ℕ → ℕ) (e : ℕ → ℤ) (m : ℕ) (h : ℕ → ℤ) : Type 0 where
  pub positive : 0 < m
  pub row : (i : ℕ) → i < n → pos q *ℤ h i ≡ (pos m *ℤ e i) +ℤ total_ℤ n (λ j. pos (k i j) *ℤ h j)

-- ---- the elimination of patch p, the last of p + 1

-- what patch p doesn't send back to itself
abbrev pub rest : ℕ → ℕ → (ℕ → ℕ → ℕ) → ℕ
rest p q k = q - k p p

-- the equations of the patches before p, over the denominator q * rest p q k
unfoldable pub reduced : ℕ → ℕ → (ℕ → ℕ → ℕ) → ℕ → ℕ → ℕ
reduced p q k i j = k i j * rest p q k + k i p * k p j

unfoldable pub reduced_light : ℕ → ℕ → (ℕ → ℕ → ℕ) → (ℕ → ℕ) → ℕ → ℕ
reduced_light p q k e i = e i * rest p q k + k i p * e p

-- the solution of n equations is numerator n q k e i / denominator n q k at each patch i
unfoldable pub denominator : ℕ → ℕ → (ℕ → ℕ → ℕ) → ℕ
denominator zero q k = 1
denominator (suc p) q k = denominator p (q * rest p q k) (reduced p q k) * rest p q k

unfoldable pub numerator : ℕ → ℕ → (ℕ → ℕ → ℕ) → (ℕ → ℕ) → ℕ → ℕ
numerator zero q k e i = 0
numerator (suc p) q k e i =
    let before : ℕ → ℕ = numerator p (q * rest p q k) (reduced p q k) (reduced_light p q k e) in
    if nat_lt i p
    then before i * rest p q k
    else denominator p (q * rest p q k) (reduced p q k) * e p + total p (λ j. k p j * before j)
