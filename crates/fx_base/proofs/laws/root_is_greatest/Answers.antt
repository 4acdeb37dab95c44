use Rattle.fx_base.proofs.SearchLaws.{whole_root_is}
use Rattle.fx_base.proofs.laws.root_is_greatest.Goals as goal

pub returns : goal.returns
returns c = whole_root_is
