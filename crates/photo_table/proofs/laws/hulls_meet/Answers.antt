use Rattle.photo_table.proofs.HullLaws.{hulls_meet}
use Rattle.photo_table.proofs.laws.hulls_meet.Goals as goal

pub returns : goal.returns
returns c = hulls_meet
