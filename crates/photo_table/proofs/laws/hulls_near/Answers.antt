use Rattle.photo_table.proofs.HullLaws.{hulls_near}
use Rattle.photo_table.proofs.laws.hulls_near.Goals as goal

pub returns : goal.returns
returns c = hulls_near
