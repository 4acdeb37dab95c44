use Rattle.room_layout.proofs.AcceptsRoom.{text_accepted}
use Rattle.room_layout.proofs.laws.gives_accepted.Goals as goal

pub returns : goal.returns
returns c = text_accepted
