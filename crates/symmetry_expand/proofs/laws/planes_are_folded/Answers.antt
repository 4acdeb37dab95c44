-- The law is proved over plain tables.
use Rattle.symmetry_expand.proofs.PlanesFolded.{planes_are_folded}
use Rattle.symmetry_expand.proofs.laws.planes_are_folded.Goals as goal

pub returns : goal.returns
returns c = planes_are_folded
