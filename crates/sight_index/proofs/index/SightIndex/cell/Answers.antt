use Rattle.std.proofs.Common.{rules}
use Rattle.sight_index.specs.Index.{mask_at}
use Rattle.sight_index.proofs.index.SightIndex.cell.Goals as goal

pub returns : goal.returns
unfolding mask_at
returns c = search rules
