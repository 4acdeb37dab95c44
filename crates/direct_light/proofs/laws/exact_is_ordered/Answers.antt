use Rattle.direct_light.proofs.Ordered.{exact_is_ordered}
use Rattle.direct_light.proofs.laws.exact_is_ordered.Goals as goal

pub returns : goal.returns
returns c = exact_is_ordered
