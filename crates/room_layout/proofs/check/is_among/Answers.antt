use Rattle.std.proofs.Common.{rules}
use Rattle.room_layout.proofs.Views.{list_any-map}
use Rattle.room_layout.proofs.check.is_among.Goals as goal

pub returns : goal.returns
returns c = rw list_any-map (search rules)
