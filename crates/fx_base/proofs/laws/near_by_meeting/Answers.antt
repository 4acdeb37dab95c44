use Rattle.fx_base.proofs.Near.{near_by_meeting}
use Rattle.fx_base.proofs.laws.near_by_meeting.Goals as goal

pub returns : goal.returns
returns c = near_by_meeting
