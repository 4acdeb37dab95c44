-- What of `ends_are_the_reports` wants a proof by hand.
use Rattle.grid_report.proofs.Reported.{same_ends}
use Rattle.grid_report.proofs.laws.ends_are_the_reports.Goals as goal

pub returns : goal.returns
returns c = same_ends
