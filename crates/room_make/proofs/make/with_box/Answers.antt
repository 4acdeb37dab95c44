-- What of `with_box` wants a proof by hand.
use Rattle.std.proofs.Common.{append_assoc}
use Rattle.room_make.proofs.make.with_box.Goals as goal

pub returns : goal.returns
returns c = simp append_assoc c.in_ok-write.ensures.bytes
