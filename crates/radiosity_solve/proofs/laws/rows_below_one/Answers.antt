use Rattle.radiosity_solve.proofs.Compose.{rows_are_below_one}
use Rattle.radiosity_solve.proofs.laws.rows_below_one.Goals as goal

pub returns : goal.returns
returns c = rows_are_below_one
