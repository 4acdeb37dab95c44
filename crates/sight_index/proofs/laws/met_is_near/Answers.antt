use Rattle.sight_index.proofs.Agreed.{met_near}
use Rattle.sight_index.proofs.laws.met_is_near.Goals as goal

pub returns : goal.returns
returns c = met_near
