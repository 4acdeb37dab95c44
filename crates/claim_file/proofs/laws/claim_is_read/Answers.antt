-- What of `claim_is_read` wants a proof by hand.
use Rattle.claim_file.proofs.Fitting.{claim_is_read}
use Rattle.claim_file.proofs.laws.claim_is_read.Goals as goal

pub returns : goal.returns
returns c = claim_is_read
