use Rattle.direct_light.proofs.Ordered.{seen_in_order}
use Rattle.direct_light.proofs.laws.seen_is_in_order.Goals as goal

pub returns : goal.returns
returns c = seen_in_order
