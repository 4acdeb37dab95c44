use Rattle.scene_system.proofs.Kept.{exact_tables}
use Rattle.scene_system.proofs.assembly.assemble.Goals as goal

pub returns-clause-exact : goal.returns-clause-exact
returns-clause-exact g c = λ tables are. exact_tables c.args.room.now c.args.photos.now tables c.requires.photos c.in_ok-total.ensures.kept are
