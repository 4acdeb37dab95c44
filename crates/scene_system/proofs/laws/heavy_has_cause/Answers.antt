use Rattle.scene_system.proofs.Heavy.{heavy_has_cause}
use Rattle.scene_system.proofs.laws.heavy_has_cause.Goals as goal

pub returns : goal.returns
returns c = heavy_has_cause
