-- The law is proved over plain lines.
use Rattle.eulumdat_read.proofs.Fits.{ldt_is_fit}
use Rattle.eulumdat_read.proofs.laws.ldt_is_fit.Goals as goal

pub returns : goal.returns
returns c = ldt_is_fit
