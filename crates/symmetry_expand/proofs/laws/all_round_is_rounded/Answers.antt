-- The law of rounded tables.
use Rattle.symmetry_expand.proofs.RoundedAll.{all_round_is_rounded}
use Rattle.symmetry_expand.proofs.laws.all_round_is_rounded.Goals as goal

pub returns : goal.returns
returns c = all_round_is_rounded
