use Rattle.std.proofs.Common.{◌*◌, ◌≡◌, ◌≤◌, sum_by, take}
use Rattle.scene_system.specs.Causes.{greatest_total}
use Rattle.scene_system.specs.Tables.{ticks_by}
use Rattle.scene_system.proofs.limits.total_by.Given as goal

abbrev pub invariant-loop-lamp : goal.invariant-loop-lamp
invariant-loop-lamp l = record {
  so_far : l.total ≡ sum_by (ticks_by l.files) (take l.lamp-index l.lamp-items);
  most : l.total ≤ l.lamp-index * greatest_total;
}
