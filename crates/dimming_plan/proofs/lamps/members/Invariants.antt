-- What holds before each turn of the loops of `members`.
use Rattle.std.proofs.Common.{◌≡◌, map, take}
use Rattle.dimming_plan.specs.Members.{is_in}
use Rattle.dimming_plan.proofs.lamps.members.Given as goal

abbrev pub invariant-loop-lamp : goal.invariant-loop-lamp
invariant-loop-lamp l = l.inside.items ≡ map (is_in l.group) (take l.lamp-index l.plan)
