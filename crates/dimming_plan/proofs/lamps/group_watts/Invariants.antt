-- What holds before each turn of the loops of `group_watts`.
use Rattle.std.proofs.Common.{◌*◌, ◌≤◌, ◌≡◌, take}
use Rattle.dimming_plan.specs.Members.{group_watts}
use Rattle.dimming_plan.proofs.lamps.group_watts.Given as goal

abbrev pub invariant-loop-lamp : goal.invariant-loop-lamp
invariant-loop-lamp l = record {
  so_far : l.watts ≡ group_watts l.group (take l.lamp-index l.plan);
  most : l.watts ≤ l.lamp-index * 10000;
}
