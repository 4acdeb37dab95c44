use Rattle.fx_base.proofs.SpanSteps.{quotient_holds}
use Rattle.fx_base.proofs.laws.quotient_holds.Goals as goal

pub returns : goal.returns
returns c = quotient_holds
