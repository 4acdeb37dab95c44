-- What holds before each turn of the loops of `holds`.
use Rattle.std.proofs.Common.{ℕ, ◌<◌}
use Rattle.radiosity_solve.specs.Claim.{IsShownAt}
use Rattle.radiosity_solve.proofs.claim.holds.Given as goal

abbrev pub invariant-loop-i : goal.invariant-loop-i
invariant-loop-i l = (k : ℕ) → k < l.i → IsShownAt l.system l.bounds.lower.items l.bounds.upper.items k
