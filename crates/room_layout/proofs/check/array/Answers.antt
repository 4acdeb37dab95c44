use Rattle.std.proofs.Common.{Ok, ap}
use Rattle.room_layout.proofs.Views.{items_list-items_of}
use Rattle.room_layout.proofs.check.array.Goals as goal

pub returns-in-Some-clause-given : goal.returns-in-Some-clause-given
returns-in-Some-clause-given c = rw (c.as_slice.ensures.value, ← c.in-Some.ensures) (ap Ok (items_list-items_of _))
