-- Sums and least ends of the values of task points, over the points that aren't covered, in ticks.
use Rattle.std.specs.Prelude.{ℕ, ◌/◌, ◌^◌, ◌≤◌, ◌≤ℤ◌, pos, Bool, not, if◌then◌else◌, List, sum_by, count_by}
use Rattle.std.specs.Int.{div_ceil}
use Rattle.fx_base.specs.Units.{natural}
use Rattle.scene_system.specs.declared.value.PointValue.{PointValue}

abbrev pub low_of : PointValue → ℕ
low_of v = if v.covered then 0 else natural v.value.lo

abbrev pub high_of : PointValue → ℕ
high_of v = if v.covered then 0 else natural v.value.hi

abbrev pub is_open : PointValue → Bool
is_open v = not v.covered

abbrev pub open_total : List PointValue → ℕ
open_total values = count_by is_open values

abbrev pub low_total : List PointValue → ℕ
low_total values = sum_by low_of values

abbrev pub high_total : List PointValue → ℕ
high_total values = sum_by high_of values

-- the value's ends are in order, not negative, and at most 2^102 ticks
pub record IsValue (v : PointValue) : Type 0 where
  pub low : pos 0 ≤ℤ v.value.lo
  pub order : v.value.lo ≤ℤ v.value.hi
  pub high : natural v.value.hi ≤ 2 ^ 102

abbrev pub lower_end : PointValue → ℕ
lower_end v = natural v.value.lo

abbrev pub upper_end : PointValue → ℕ
upper_end v = natural v.value.hi

-- the average's ends in ticks, rounded outward
abbrev pub average_low : List PointValue → ℕ
average_low values = low_total values / open_total values

abbrev pub average_high : List PointValue → ℕ
average_high values = div_ceil (high_total values) (open_total values)
