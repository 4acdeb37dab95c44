-- No step so far reaches the base.
use Rattle.std.proofs.Common.{ℕ, ◌-◌, ◌<◌, ◌≤◌}
use Rattle.symmetry_expand.specs.Measured.{lifted}
use Rattle.symmetry_expand.specs.Steps.{zigzag}
use Rattle.symmetry_expand.proofs.steps.start.Given as goal

abbrev pub invariant-loop-i : goal.invariant-loop-i
invariant-loop-i l = record {
  early : l.i ≤ l.steps;
  before : (k : ℕ) → k < l.i → zigzag (lifted l.planes) k < l.base;
}

abbrev pub decreases-loop-i : goal.decreases-loop-i
decreases-loop-i l = l.steps - l.i
