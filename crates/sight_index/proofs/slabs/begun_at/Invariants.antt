use Rattle.std.proofs.Common.{◌≤◌}
use Rattle.sight_index.specs.Slabs.{along}
use Rattle.sight_index.proofs.Gathered.{IsMaskOfFirst}
use Rattle.sight_index.proofs.slabs.begun_at.Given as goal

abbrev pub invariant-loop-b : goal.invariant-loop-b
invariant-loop-b l = IsMaskOfFirst l.b (λ b. along l.axis b.lo ≤ l.place) l.blocks l.mask
