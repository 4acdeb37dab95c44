-- What of `open_value` wants a proof by hand.
use Rattle.std.proofs.Common.{◌+◌}
use Rattle.scene_system.proofs.AtPoints.{open_order, ticks_order}
use Rattle.scene_system.proofs.grid.open_value.Goals as goal

pub new-requires : goal.new-requires
new-requires c = ticks_order c.tick_of.result.0 c.tick_of-2.result.0 (c.size_of_light.result + c.sent_below.result) (c.size_of_light-2.result + c.sent_above.result) c.tick_of.ensures c.tick_of-2.ensures
    (rw (c.size_of_light.ensures.size, c.sent_below.ensures.sent, c.size_of_light-2.ensures.size, c.sent_above.ensures.sent, c.lo.ensures.end, c.hi.ensures.end)
    (open_order c.args.row.now c.args.direct.now c.args.lower.now c.args.upper.now c.len-size.ensures.row c.requires.direct c.requires.in_order))
