use Rattle.std.proofs.Common.{◌-◌, ℕ, ◌<◌, ◌≤◌, length, map, slice_index_or}
use Rattle.photo_table.specs.Kept.{angle_of}
use Rattle.photo_table.proofs.search.count_up_to.Given as goal

abbrev pub invariant-loop-low : goal.invariant-loop-low
invariant-loop-low l = record {
  in_order : l.low ≤ l.high;
  within : l.high ≤ length l.angles;
  up_to : (i : ℕ) → i < l.low → slice_index_or (map angle_of l.angles) i 0 ≤ l.x;
  above : (i : ℕ) → l.high ≤ i → i < length l.angles → l.x < slice_index_or (map angle_of l.angles) i 0;
}

abbrev pub decreases-loop-low : goal.decreases-loop-low
decreases-loop-low l = l.high - l.low
