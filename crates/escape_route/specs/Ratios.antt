-- The ratio of the greatest to the least light, in thousandths, and the verdict on a most that is asked of it.
use Rattle.std.specs.Prelude.{ℕ, ◌≡◌, ◌*◌, ◌/◌, ◌<◌, ◌≤◌, ◌≤ℤ◌, ◌^◌, pos, nat_le, nat_lt, if◌then◌else◌}
use Rattle.std.specs.Int.{div_ceil}
use Rattle.fx_base.specs.Ends.{Ends}
use Rattle.fx_base.specs.Fraction.{◌≤ᶠ◌, ◌+ᶠ◌, ◌/ᶠ◌, ratio}
use Rattle.fx_base.specs.Interval.{Interval, Meets, LiesIn}
use Rattle.fx_base.specs.Units.{natural, of_span}
use Rattle.limit_verdict.specs.declared.verdict.Verdict.{Verdict}
use Rattle.limit_verdict.specs.declared.verdict.Verdict.TheVariants.{Met, Missed, Undecided}

-- a light of 0 to 2^90 ticks
pub record IsLight (e : Ends) : Type 0 where
  pub low : pos 0 ≤ℤ e.lo
  pub in_order : e.lo ≤ℤ e.hi
  pub high : natural e.hi ≤ 2 ^ 90

-- the greatest by the least, rounded outward to thousandths
pub record IsRatio (least greatest : Ends) (lo hi : ℕ) : Type 0 where
  pub positive : 0 < natural least.lo
  pub lower : lo ≡ natural greatest.lo * 1000 / natural least.hi
  pub upper : hi ≡ div_ceil (natural greatest.hi * 1000) (natural least.lo)

-- ---- the ratio of two intervals: from the greatest's lower end by the least's upper end, to the greatest's upper end by the
-- least's lower end. An end whose divisor is 0 is no bound.

-- a ratio in thousandths meets it
pub record MeetsRatio (lo hi : ℕ) (least greatest : Interval) : Type 0 where
  pub above : 0 < least.lo.num → ratio lo 1000 ≤ᶠ (greatest.hi /ᶠ least.lo)
  pub below : 0 < least.hi.num → (greatest.lo /ᶠ least.hi) ≤ᶠ ratio hi 1000

-- or lies within it, moved outward by 0.001
pub record IsNearRatio (lo hi : ℕ) (least greatest : Interval) : Type 0 where
  pub lower : 0 < least.hi.num → (greatest.lo /ᶠ least.hi) ≤ᶠ (ratio lo 1000 +ᶠ ratio 1 1000)
  pub upper : 0 < least.lo.num → ratio hi 1000 ≤ᶠ ((greatest.hi /ᶠ least.lo) +ᶠ ratio 1 1000)

-- what a ratio in thousandths is to the intervals that two spans meet, and to those in which they lie
pub record RatioHolds (least greatest : Ends) (lo hi : ℕ) : Type 0 where
  pub in_order : lo ≤ hi
  pub meets : (l g : Interval) → Meets (of_span least) l → Meets (of_span greatest) g → MeetsRatio lo hi l g
  pub near : (l g : Interval) → LiesIn (of_span least) l → LiesIn (of_span greatest) g → IsNearRatio lo hi l g

-- ---- the verdict on a most

-- met where the upper end is within it, missed where the lower end is beyond it
abbrev pub most_verdict : ℕ → ℕ → ℕ → Verdict
most_verdict most lo hi = if nat_le hi most then Met else (if nat_lt most lo then Missed else Undecided)
