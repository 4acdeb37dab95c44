-- What of `grid_shows_each_point` wants a proof by hand.
use Rattle.report_form.proofs.Records.{shows_each}
use Rattle.report_form.proofs.laws.grid_shows_each_point.Goals as goal

pub returns : goal.returns
returns c = shows_each
