use Rattle.scene_system.proofs.Kept.{same_total}
use Rattle.scene_system.proofs.laws.total_is_of_tables.Goals as goal

pub returns : goal.returns
returns c = same_total
