-- The stored planes so far.
use Rattle.std.proofs.Common.{◌≡◌, ◌∷◌, []}
use Rattle.symmetry_expand.specs.AllRound.{joined}
use Rattle.eulumdat_read.specs.Ldt.{stored_angle}
use Rattle.eulumdat_read.proofs.stored.stored_of.Given as goal

abbrev pub invariant-loop-p : goal.invariant-loop-p
invariant-loop-p l = l.planes.items ≡ joined (λ p. stored_angle l.head.symmetry l.head.planes l.angles p ∷ []) l.p
