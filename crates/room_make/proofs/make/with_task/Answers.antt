-- What of `with_task` wants a proof by hand.
use Rattle.std.proofs.Common.{append_assoc}
use Rattle.room_make.proofs.make.with_task.Goals as goal

pub returns : goal.returns
returns c = simp append_assoc (rw (c.edge_x.ensures, c.edge_y.ensures) at c.in_ok-write.ensures.bytes)
