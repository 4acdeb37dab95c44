-- The law of folds.
use Rattle.symmetry_expand.proofs.AllFolded.{all_round_is_folded}
use Rattle.symmetry_expand.proofs.laws.all_round_is_folded.Goals as goal

pub returns : goal.returns
returns c = all_round_is_folded
