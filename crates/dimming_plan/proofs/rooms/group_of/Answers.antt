-- What of `group_of` wants a proof by hand.
use Rattle.std.proofs.lemmas.Result.{err_from_is_err_and}
use Rattle.dimming_plan.specs.Members.{members}
use Rattle.dimming_plan.proofs.RoomCauses.{room_cause}
use Rattle.dimming_plan.proofs.rooms.group_of.Goals as goal

pub returns-in_err-average-clause-refused : goal.returns-in_err-average-clause-refused
returns-in_err-average-clause-refused g c = λ tables are within.
    let p = err_from_is_err_and c.from_residual-in_err-average.result c.from_residual-in_err-average.ensures.1 in
    let cause = rw (c.as_slice.ensures.value, c.in_ok-inside.ensures) at c.in_err-average.ensures.refused in
    rw (p.1, p.2) (room_cause c.args.photos.now tables c.args.room.now (members c.args.group c.args.plan.now) c.in_err-average.field-0.0 c.total_is_of_tables.ensures c.limits_are_kept.ensures are within cause)

pub returns-clause-fits : goal.returns-clause-fits
returns-clause-fits g c =
    let e = c.in_ok-average.ensures.in_range in
    record { low = e.low; order = e.order; high = e.high; watts = c.group_watts-watts.ensures.most }
