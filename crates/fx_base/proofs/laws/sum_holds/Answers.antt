use Rattle.fx_base.proofs.SpanSteps.{sum_holds}
use Rattle.fx_base.proofs.laws.sum_holds.Goals as goal

pub returns : goal.returns
returns c = sum_holds
