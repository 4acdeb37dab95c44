use Rattle.photo_table.proofs.HullLaws.{hull_contains}
use Rattle.photo_table.proofs.laws.hull_contains.Goals as goal

pub returns : goal.returns
returns c = hull_contains
