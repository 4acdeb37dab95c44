use Rattle.fx_base.proofs.SpanSteps.{scaled_holds}
use Rattle.fx_base.proofs.laws.scaled_holds.Goals as goal

pub returns : goal.returns
returns c = scaled_holds
