use Rattle.fx_base.proofs.SpanSteps.{fraction_holds}
use Rattle.fx_base.proofs.laws.fraction_holds.Goals as goal

pub returns : goal.returns
returns c = fraction_holds
