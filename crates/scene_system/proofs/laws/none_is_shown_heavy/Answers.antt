use Rattle.scene_system.proofs.Heavy.{none_is_shown_heavy}
use Rattle.scene_system.proofs.laws.none_is_shown_heavy.Goals as goal

pub returns : goal.returns
returns c = none_is_shown_heavy
