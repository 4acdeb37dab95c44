-- The least and the greatest of some numbers, and of some intervals.
use Rattle.std.specs.Prelude.{ℕ, zero, suc}
use Rattle.fx_base.specs.Fraction.{Fraction, lesser, greater}
use Rattle.fx_base.specs.Interval.{Interval}

-- of v 0 to v n
unfoldable pub least_of : ℕ → (ℕ → Fraction) → Fraction
least_of zero v = v 0
least_of (suc n) v = lesser (least_of n v) (v (suc n))

unfoldable pub greatest_of : ℕ → (ℕ → Fraction) → Fraction
greatest_of zero v = v 0
greatest_of (suc n) v = greater (greatest_of n v) (v (suc n))

-- from the least lower end to the least upper end, and likewise
abbrev pub least : ℕ → (ℕ → Interval) → Interval
least n v = record { lo = least_of n (λ k. (v k).lo); hi = least_of n (λ k. (v k).hi) }

abbrev pub greatest : ℕ → (ℕ → Interval) → Interval
greatest n v = record { lo = greatest_of n (λ k. (v k).lo); hi = greatest_of n (λ k. (v k).hi) }
