use Rattle.photo_table.proofs.Exactly.{rounded_is_narrow}
use Rattle.photo_table.proofs.laws.rounded_is_narrow.Goals as goal

pub returns : goal.returns
returns c = rounded_is_narrow
