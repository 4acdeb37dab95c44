use Rattle.photo_table.proofs.Points.{planes_go_round}
use Rattle.photo_table.proofs.laws.planes_go_round.Goals as goal

pub returns : goal.returns
returns c = planes_go_round
