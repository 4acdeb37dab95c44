use Rattle.std.proofs.Common.{◌*◌, ◌≤◌}
use Rattle.sight_index.specs.Cells.{begins}
use Rattle.sight_index.specs.Slabs.{IsBegun}
use Rattle.sight_index.proofs.Gathered.{IsUnion}
use Rattle.sight_index.proofs.slabs.Slabs.begun.Given as goal

abbrev pub invariant-loop-k : goal.invariant-loop-k
invariant-loop-k l = IsUnion l.k (λ k b. (2 * begins l.self.edge k ≤ l.at) × IsBegun l.self.kept.items k b) l.mask
