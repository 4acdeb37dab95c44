-- What of `average_by` wants a proof by hand.
use Rattle.std.proofs.Common.{◌<◌}
use Rattle.scene_system.specs.Assembled.{numbers}
use Rattle.scene_system.specs.Sums.{open_total}
use Rattle.dimming_plan.proofs.Averaged.{group_averaged, in_range}
use Rattle.dimming_plan.proofs.groups.average_by.Goals as goal

pub returns-clause-average : goal.returns-clause-average
returns-clause-average c = λ tables exact scene.
    let r = c.requires in
    let values = c.in_ok-values.values.items in
    let are = c.values_are_points.ensures tables c.args.room.now (numbers c.args.scene.now) c.args.bounds.now.lower.items c.args.bounds.now.upper.items values
    r.accepted exact r.formed scene r.none_heavy r.lower r.upper r.in_order c.in_ok-values.ensures.values in
    let some : 0 < open_total values = rw c.in_ok-values.ensures.open r.formed.some_open in
    group_averaged tables c.args.room.now values c.average-mean.result are some
    (rw c.as_slice.ensures.value at c.average-mean.ensures.low) (rw c.as_slice.ensures.value at c.average-mean.ensures.high) (rw c.as_slice.ensures.value at c.average-mean.ensures.order)

pub returns-clause-in_range : goal.returns-clause-in_range
returns-clause-in_range c =
    let values = c.in_ok-values.values.items in
    let some : 0 < open_total values = rw c.in_ok-values.ensures.open c.requires.formed.some_open in
    in_range values c.average-mean.result some c.in_ok-values.ensures.each
    (rw c.as_slice.ensures.value at c.average-mean.ensures.low) (rw c.as_slice.ensures.value at c.average-mean.ensures.high) (rw c.as_slice.ensures.value at c.average-mean.ensures.order)
