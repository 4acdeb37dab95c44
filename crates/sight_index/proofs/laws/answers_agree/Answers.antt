use Rattle.sight_index.proofs.Agreed.{agree}
use Rattle.sight_index.proofs.laws.answers_agree.Goals as goal

pub returns : goal.returns
returns c = agree
