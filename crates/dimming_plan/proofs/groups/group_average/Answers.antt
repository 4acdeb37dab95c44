-- What of `group_average` wants a proof by hand.
use Rattle.std.proofs.Common.{IfOk, subst}
use Rattle.room_layout.specs.declared.room.Room.{Room}
use Rattle.scene_system.specs.RowSums.{NoneIsHeavy}
use Rattle.dimming_plan.proofs.groups.group_average.Goals as goal

pub returns-in-Ok-clause-none_heavy : goal.returns-in-Ok-clause-none_heavy
returns-in-Ok-clause-none_heavy g c =
    subst (λ (room : Room). IfOk c.room_average.result (λ span. NoneIsHeavy room)) c.in-Ok.ensures.without c.room_average.ensures.none_heavy
