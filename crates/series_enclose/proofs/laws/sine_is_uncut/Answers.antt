use Rattle.series_enclose.proofs.Uncut.{sine_uncut}
use Rattle.series_enclose.proofs.laws.sine_is_uncut.Goals as goal

pub returns : goal.returns
returns c = sine_uncut
