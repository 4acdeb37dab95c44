use Rattle.room_layout.proofs.Selected.{keeps_accepted}
use Rattle.room_layout.proofs.laws.keeps_accepted.Goals as goal

pub returns : goal.returns
returns c = keeps_accepted
