-- What a system of intervals holds: rows of weights, and a span of direct light for each row, all in ticks of 2^-36.
use Rattle.std.specs.Prelude.{ℕ, ◌≡◌, ◌<◌, ◌≤◌, ◌^◌, List, [], length, sum_by, slice_index_or, All, pos, ◌≤ℤ◌}
use Rattle.fx_base.specs.declared.Weight.{Weight}
use Rattle.fx_base.specs.Ends.{Ends}
use Rattle.fx_base.specs.Units.{natural, no_weight}
pub use Rattle.fx_base.specs.Units.{no_weight}

-- a part of one
pub record IsWeight (w : Weight) : Type 0 where
  pub in_order : w.lo ≤ w.hi
  pub most : w.hi ≤ 2 ^ 36

-- from 0 to 2^82 ticks, the range of direct light
pub record IsInLightRange (d : Ends) : Type 0 where
  pub low : pos 0 ≤ℤ d.lo
  pub most : d.hi ≤ℤ pos (2 ^ 82)

-- direct light: its ends are in that range and in order
pub record IsDirectLight (d : Ends) : Type 0 where
  pub low : pos 0 ≤ℤ d.lo
  pub in_order : d.lo ≤ℤ d.hi
  pub most : d.hi ≤ℤ pos (2 ^ 82)

pub record IsRow (weights : List Weight) : Type 0 where
  pub few : length weights ≤ 2048
  pub each : All IsWeight weights

pub record System : Type 0 where
  pub rows : List (List Weight)
  pub direct : List Ends

-- a square of weights, with direct light for each row
pub record IsSystem (s : System) : Type 0 where
  pub few : length s.rows ≤ 2048
  pub square : All (λ row. length row ≡ length s.rows) s.rows
  pub weights : All (All IsWeight) s.rows
  pub lights : length s.direct ≡ length s.rows
  pub light : All IsDirectLight s.direct

-- ---- its numbers

abbrev pub no_light : Ends
no_light = record { lo = pos 0; hi = pos 0 }

abbrev pub weight_at : System → ℕ → ℕ → Weight
weight_at s i j = slice_index_or (slice_index_or s.rows i []) j no_weight

abbrev pub direct_at : System → ℕ → Ends
direct_at s i = slice_index_or s.direct i no_light

abbrev pub low_weight : System → ℕ → ℕ → ℕ
low_weight s i j = (weight_at s i j).lo

abbrev pub high_weight : System → ℕ → ℕ → ℕ
high_weight s i j = (weight_at s i j).hi

abbrev pub low_direct : System → ℕ → ℕ
low_direct s i = natural (direct_at s i).lo

abbrev pub high_direct : System → ℕ → ℕ
high_direct s i = natural (direct_at s i).hi

-- ---- row sums

-- the sum of the upper ends
abbrev pub upper_total : List Weight → ℕ
upper_total weights = sum_by (λ w. w.hi) weights

-- 255/256 in ticks, the greatest sum of a row with which a system is solved
abbrev pub greatest_row_sum : ℕ
greatest_row_sum = 68451041280

abbrev pub NoneHeavy : List (List Weight) → Type 0
NoneHeavy rows = All (λ row. upper_total row ≤ greatest_row_sum) rows

-- row i is the first whose sum is above that, and this is its sum
pub record IsFirstHeavy (rows : List (List Weight)) (i sum : ℕ) : Type 0 where
  pub inside : i < length rows
  pub is : sum ≡ upper_total (slice_index_or rows i [])
  pub heavy : greatest_row_sum < sum
  pub earlier : (k : ℕ) → k < i → upper_total (slice_index_or rows k []) ≤ greatest_row_sum
