-- What of `grid_reads_back` wants a proof by hand.
use Rattle.report_form.proofs.Records.{reads_back}
use Rattle.report_form.proofs.laws.grid_reads_back.Goals as goal

pub returns : goal.returns
returns c = reads_back
