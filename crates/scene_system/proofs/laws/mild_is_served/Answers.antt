use Rattle.scene_system.proofs.Heavy.{mild_is_served}
use Rattle.scene_system.proofs.laws.mild_is_served.Goals as goal

pub returns : goal.returns
returns c = mild_is_served
