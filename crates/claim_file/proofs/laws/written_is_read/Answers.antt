-- What of `written_is_read` wants a proof by hand.
use Rattle.claim_file.proofs.Back.{written_is_read}
use Rattle.claim_file.proofs.laws.written_is_read.Goals as goal

pub returns : goal.returns
returns c = written_is_read
