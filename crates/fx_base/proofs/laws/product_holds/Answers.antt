use Rattle.fx_base.proofs.SpanSteps.{product_holds}
use Rattle.fx_base.proofs.laws.product_holds.Goals as goal

pub returns : goal.returns
returns c = product_holds
