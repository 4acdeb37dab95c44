use Rattle.photo_table.proofs.HullLaws.{hull_grows}
use Rattle.photo_table.proofs.laws.hull_grows.Goals as goal

pub returns : goal.returns
returns c = hull_grows
