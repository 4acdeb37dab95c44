-- The law is proved over plain bytes.
use Rattle.lm63_read.proofs.FitsHead.{file_is_fit}
use Rattle.lm63_read.proofs.laws.file_is_fit.Goals as goal

pub returns : goal.returns
returns c = file_is_fit
