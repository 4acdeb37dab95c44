-- The planes so far.
use Rattle.std.proofs.Common.{◌≡◌, ◌+◌, ◌-◌, ◌∷◌, []}
use Rattle.symmetry_expand.specs.AllRound.{joined}
use Rattle.symmetry_expand.specs.Measured.{lifted, micro}
use Rattle.symmetry_expand.specs.Steps.{zigzag}
use Rattle.symmetry_expand.proofs.turn.turn_planes.Given as goal

abbrev pub invariant-loop-i : goal.invariant-loop-i
invariant-loop-i l = l.all.items ≡ joined (λ i. micro (zigzag (lifted l.planes) (l.start + i) - l.base) ∷ []) l.i
