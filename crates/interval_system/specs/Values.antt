-- What the values at the points of a task give: their mean and their uniformity, over the points that no box covers. It speaks of
-- functions of a point's number alone.
use Rattle.std.specs.Prelude.{ℕ, zero, suc, ◌+◌, ◌==◌, Bool, if◌then◌else◌}
use Rattle.fx_base.specs.Fraction.{Fraction, ◌/ᶠ◌, whole, lesser, sum_to}
use Rattle.fx_base.specs.Interval.{Interval}

-- the values at n points, and which of them are covered
pub record Grid : Type 0 where
  pub points : ℕ
  pub covered : ℕ → Bool
  pub value : ℕ → Interval

-- how many of the first n points aren't covered
unfoldable pub open_count : (ℕ → Bool) → ℕ → ℕ
open_count covered zero = 0
open_count covered (suc n) = if covered n then open_count covered n else open_count covered n + 1

-- the sum over them
unfoldable pub open_sum : (ℕ → Bool) → (ℕ → Fraction) → ℕ → Fraction
open_sum covered v n = sum_to n (λ g. if covered g then whole 0 else v g)

-- the mean over them
unfoldable pub mean : (ℕ → Bool) → (ℕ → Fraction) → ℕ → Fraction
mean covered v n = open_sum covered v n /ᶠ whole (open_count covered n)

-- the least of them, and 0 where there is none
unfoldable pub least : (ℕ → Bool) → (ℕ → Fraction) → ℕ → Fraction
least covered v zero = whole 0
least covered v (suc n) = if covered n then least covered v n else (if open_count covered n == 0 then v n else lesser (least covered v n) (v n))

unfoldable pub average : Grid → Interval
average s = record { lo = mean s.covered (λ g. (s.value g).lo) s.points; hi = mean s.covered (λ g. (s.value g).hi) s.points }

-- the least by the average, at most 1; the upper end is 1 where the lower end of the average is 0
unfoldable pub uniformity : Grid → Interval
uniformity s = record {
  lo = least s.covered (λ g. (s.value g).lo) s.points /ᶠ (average s).hi;
  hi = if (average s).lo.num == 0 then whole 1 else lesser (whole 1) (least s.covered (λ g. (s.value g).hi) s.points /ᶠ (average s).lo);
}
