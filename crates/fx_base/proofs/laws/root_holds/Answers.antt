use Rattle.fx_base.proofs.SpanSteps.{root_holds}
use Rattle.fx_base.proofs.laws.root_holds.Goals as goal

pub returns : goal.returns
returns c = root_holds
