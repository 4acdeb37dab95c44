use Rattle.form_factor.proofs.Spread.{spreads}
use Rattle.form_factor.proofs.laws.kernel_spreads.Goals as goal

pub returns : goal.returns
returns c = spreads
