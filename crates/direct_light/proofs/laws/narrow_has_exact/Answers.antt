use Rattle.direct_light.proofs.Narrow.{narrow_has_exact}
use Rattle.direct_light.proofs.laws.narrow_has_exact.Goals as goal

pub returns : goal.returns
returns c = narrow_has_exact
