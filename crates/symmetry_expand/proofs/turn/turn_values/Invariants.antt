-- The rows so far.
use Rattle.std.proofs.Common.{◌≡◌, ◌+◌}
use Rattle.symmetry_expand.specs.AllRound.{joined, row_of}
use Rattle.symmetry_expand.specs.Steps.{source}
use Rattle.symmetry_expand.proofs.turn.turn_values.Given as goal

abbrev pub invariant-loop-i : goal.invariant-loop-i
invariant-loop-i l = l.all.items ≡ joined (λ i. row_of l.gammas (source l.n (l.start + i)) l.values) l.i
