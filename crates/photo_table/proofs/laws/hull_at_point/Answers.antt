use Rattle.photo_table.proofs.Points.{hull_at_point}
use Rattle.photo_table.proofs.laws.hull_at_point.Goals as goal

pub returns : goal.returns
returns c = hull_at_point
