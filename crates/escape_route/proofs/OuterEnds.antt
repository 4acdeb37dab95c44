-- The outermost of two ends, and what they are to the outermost of two intervals.
use Rattle.std.proofs.Common.{ℕ, ◌≡◌, ◌⊎◌, inl, inr, min, max, arith}
use Rattle.std.proofs.lemmas.Bool.{cases_lt}
use Rattle.fx_base.specs.Fraction.{Fraction, ◌≤ᶠ◌, lesser, greater}
use Rattle.fx_base.specs.Units.{ticks}
use Rattle.fx_base.proofs.Order.{le_trans_f}
use Rattle.fx_base.proofs.Ratios.{lesser_left, lesser_right, le_lesser, greater_left, greater_right, greater_le}
use Rattle.fx_base.proofs.Sums.{ticks_le}

-- ---- numbers of ticks below and above fractions

pub least_below : (x y : ℕ) (u v : Fraction) → ticks x ≤ᶠ u → ticks y ≤ᶠ v → ticks (min x y) ≤ᶠ lesser u v
least_below x y u v g h = le_lesser u v (le_trans_f (ticks_le (min x y) x (omega arith)) g) (le_trans_f (ticks_le (min x y) y (omega arith)) h)

least_is : (x y : ℕ) → (min x y ≡ x) ⊎ (min x y ≡ y)
least_is x y = elim (cases_lt x y) [ inl below ↦ inl (omega (arith, below)) | inr above ↦ inr (omega (arith, above)) ]

pub least_above : (x y : ℕ) (u v : Fraction) → u ≤ᶠ ticks x → v ≤ᶠ ticks y → lesser u v ≤ᶠ ticks (min x y)
least_above x y u v g h = elim (least_is x y) [
  | inl e ↦ rw e (le_trans_f (lesser_left u v) g)
  | inr e ↦ rw e (le_trans_f (lesser_right u v) h)
]

greatest_is : (x y : ℕ) → (max x y ≡ x) ⊎ (max x y ≡ y)
greatest_is x y = elim (cases_lt x y) [ inl below ↦ inr (omega (arith, below)) | inr above ↦ inl (omega (arith, above)) ]

pub greatest_below : (x y : ℕ) (u v : Fraction) → ticks x ≤ᶠ u → ticks y ≤ᶠ v → ticks (max x y) ≤ᶠ greater u v
greatest_below x y u v g h = elim (greatest_is x y) [
  | inl e ↦ rw e (le_trans_f g (greater_left u v))
  | inr e ↦ rw e (le_trans_f h (greater_right u v))
]

pub greatest_above : (x y : ℕ) (u v : Fraction) → u ≤ᶠ ticks x → v ≤ᶠ ticks y → greater u v ≤ᶠ ticks (max x y)
greatest_above x y u v g h = greater_le u v (le_trans_f g (ticks_le x (max x y) (omega arith))) (le_trans_f h (ticks_le y (max x y) (omega arith)))
