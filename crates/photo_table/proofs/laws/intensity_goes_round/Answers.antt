use Rattle.photo_table.proofs.Points.{intensity_goes_round}
use Rattle.photo_table.proofs.laws.intensity_goes_round.Goals as goal

pub returns : goal.returns
returns c = intensity_goes_round
