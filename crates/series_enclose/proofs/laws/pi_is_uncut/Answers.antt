use Rattle.series_enclose.proofs.Uncut.{pi_uncut}
use Rattle.series_enclose.proofs.laws.pi_is_uncut.Goals as goal

pub returns : goal.returns
returns c = pi_uncut
