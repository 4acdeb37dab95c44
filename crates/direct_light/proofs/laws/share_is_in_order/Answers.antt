use Rattle.direct_light.proofs.Ordered.{shares_in_order}
use Rattle.direct_light.proofs.laws.share_is_in_order.Goals as goal

pub returns : goal.returns
returns c = shares_in_order
