-- Sums over the first values.
use Rattle.std.proofs.Common.{ℕ, ◌*◌, ◌^◌, ◌<◌, ◌≤◌, ◌≡◌, List, length}
use Rattle.std.specs.Prelude.{slice_index_or}
use Rattle.fx_base.specs.declared.Tick.{Tick}
use Rattle.scene_system.specs.Assembled.{Numbers}
use Rattle.scene_system.specs.PointValues.{IsValueOf}
use Rattle.scene_system.specs.Sums.{low_total, high_total, open_total, IsValue}
use Rattle.scene_system.specs.declared.value.PointValue.{PointValue}

pub record AreTotals (values : List PointValue) (index low high count : ℕ) : Type 0 where
  pub low_is : low ≡ low_total values
  pub high_is : high ≡ high_total values
  pub count_is : count ≡ open_total values
  pub order : low ≤ high
  pub most : high ≤ index * 2 ^ 102
  pub few : count ≤ index

-- the values of the first points of a scene
pub record AreValuesSoFar (s : Numbers) (lower upper : List Tick) (count : ℕ) (values : List PointValue) : Type 0 where
  pub size : length values ≡ count
  pub each : (g : ℕ) (d : PointValue) → g < length values → IsValueOf s lower upper g (slice_index_or values g d)
  pub fits : (g : ℕ) (d : PointValue) → g < length values → IsValue (slice_index_or values g d)
