-- What of `report_is_right` wants a proof by hand.
use Rattle.grid_report.proofs.Rooms.{is_right}
use Rattle.grid_report.proofs.laws.report_is_right.Goals as goal

pub returns : goal.returns
returns c = is_right
