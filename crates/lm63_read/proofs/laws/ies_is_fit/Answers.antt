-- The law is proved over plain items.
use Rattle.lm63_read.proofs.Fits.{ies_is_fit}
use Rattle.lm63_read.proofs.laws.ies_is_fit.Goals as goal

pub returns : goal.returns
returns c = ies_is_fit
