-- The plane that a step mirrors.
use Rattle.std.proofs.Common.{arith}
use Rattle.symmetry_expand.proofs.Zigzag.{source_short, source_long}
use Rattle.symmetry_expand.proofs.steps.source.Goals as goal

pub returns-then-r-n-clause-source : goal.returns-then-r-n-clause-source
returns-then-r-n-clause-source c = source_short c.args.n c.args.i (omega arith)

pub returns-else-r-n-clause-source : goal.returns-else-r-n-clause-source
returns-else-r-n-clause-source c = source_long c.args.n c.args.i (omega arith)
