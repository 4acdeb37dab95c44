use Rattle.std.proofs.Common.{◌+◌, ◌*◌, ◌≤◌}
use Rattle.sight_index.specs.Cells.{begins}
use Rattle.sight_index.specs.Slabs.{IsUnended}
use Rattle.sight_index.proofs.Gathered.{IsUnion}
use Rattle.sight_index.proofs.slabs.Slabs.unended.Given as goal

abbrev pub invariant-loop-k : goal.invariant-loop-k
invariant-loop-k l = IsUnion l.k (λ k b. (l.at ≤ 2 * begins l.self.edge (k + 1)) × IsUnended l.self.kept.items k b) l.mask
