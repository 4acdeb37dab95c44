use Rattle.std.proofs.Common.{ℕ, ◌<◌, ◌≤ℤ◌, slice_index_or}
use Rattle.fx_base.specs.Ends.{Ends}
use Rattle.photo_table.proofs.table.spans_are_in_order.Given as goal

abbrev pub invariant-loop-span : goal.invariant-loop-span
invariant-loop-span l = (k : ℕ) (d : Ends) → k < l.span-index → (slice_index_or l.values k d).lo ≤ℤ (slice_index_or l.values k d).hi
