use Rattle.direct_light.proofs.Ordered.{lamp_shares_in_order}
use Rattle.direct_light.proofs.laws.lamp_share_is_in_order.Goals as goal

pub returns : goal.returns
returns c = lamp_shares_in_order
