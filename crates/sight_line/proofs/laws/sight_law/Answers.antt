use Rattle.sight_line.proofs.Decided.{decided}
use Rattle.sight_line.proofs.laws.sight_law.Goals as goal

pub returns : goal.returns
returns c = decided
