use Rattle.room_layout.proofs.Reordered.{ignores_order}
use Rattle.room_layout.proofs.laws.ignores_order.Goals as goal

pub returns : goal.returns
returns c = ignores_order
