use Rattle.series_enclose.proofs.Uncut.{cosine_uncut}
use Rattle.series_enclose.proofs.laws.cosine_is_uncut.Goals as goal

pub returns : goal.returns
returns c = cosine_uncut
