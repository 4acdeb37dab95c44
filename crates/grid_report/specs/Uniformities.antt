-- The least ends of the values of task points, and their uniformity, over the points that aren't covered, in ticks.
use Rattle.std.specs.Prelude.{ℕ, ◌≡◌, ◌*◌, ◌/◌, min, ◌<◌, ◌≤◌, Bool, false, if◌then◌else◌, List, length, slice_index_or}
use Rattle.std.specs.Int.{div_ceil}
use Rattle.scene_system.specs.Sums.{average_low, average_high, lower_end, upper_end}
use Rattle.scene_system.specs.declared.value.PointValue.{PointValue}

-- the lesser of the least number so far and that of one more point, unless it is covered
abbrev pub lesser_open : Bool → ℕ → ℕ → ℕ
lesser_open covered least number = if covered then least else min least number

-- the least of these numbers of the points that aren't covered
pub record IsLeast (number : PointValue → ℕ) (values : List PointValue) (least : ℕ) : Type 0 where
  pub below : (g : ℕ) (d : PointValue) → g < length values → (slice_index_or values g d).covered ≡ false → least ≤ number (slice_index_or values g d)
  pub attained : (d : PointValue) → (g : ℕ) × (g < length values) × ((slice_index_or values g d).covered ≡ false) × (number (slice_index_or values g d) ≡ least)

-- the least ends by the average's ends, in millionths rounded outward and at most 1,000,000
pub record IsUniformity (values : List PointValue) (lo hi : ℕ) : Type 0 where
  pub positive : 0 < average_low values
  pub least_low : ℕ
  pub least_high : ℕ
  pub is_least_low : IsLeast lower_end values least_low
  pub is_least_high : IsLeast upper_end values least_high
  pub lower : lo ≡ min (least_low * 1000000 / average_high values) 1000000
  pub upper : hi ≡ min (div_ceil (least_high * 1000000) (average_low values)) 1000000
