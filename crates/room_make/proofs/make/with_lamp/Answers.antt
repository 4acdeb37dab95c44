-- What of `with_lamp` wants a proof by hand.
use Rattle.std.proofs.Common.{append_assoc}
use Rattle.room_make.proofs.make.with_lamp.Goals as goal

pub returns : goal.returns
returns c = simp append_assoc (rw (c.middle_of-x.ensures, c.middle_of-y.ensures, c.edge_x.ensures, c.edge_y.ensures, c.lamp_columns.ensures, c.lamp_rows.ensures) at c.in_ok-write.ensures.bytes)
