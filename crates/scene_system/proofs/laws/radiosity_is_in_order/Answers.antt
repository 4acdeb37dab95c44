use Rattle.scene_system.proofs.Orders.{in_order}
use Rattle.scene_system.proofs.laws.radiosity_is_in_order.Goals as goal

pub returns : goal.returns
returns c = in_order
