use Rattle.scene_system.proofs.Rows.{rows_below}
use Rattle.scene_system.proofs.laws.rows_stay_below_one.Goals as goal

pub returns : goal.returns
returns c = rows_below
