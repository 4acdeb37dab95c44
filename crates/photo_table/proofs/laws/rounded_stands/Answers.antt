use Rattle.photo_table.proofs.Exactly.{rounded_stands}
use Rattle.photo_table.proofs.laws.rounded_stands.Goals as goal

pub returns : goal.returns
returns c = rounded_stands
