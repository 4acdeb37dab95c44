use Rattle.std.proofs.Common.{◌≡◌, ◌≤◌, All, map, take}
use Rattle.scene_system.specs.Causes.{greatest_ticks, greatest_total}
use Rattle.scene_system.specs.Tables.{AreKept}
use Rattle.scene_system.proofs.limits.greatest_of_all.Given as goal

abbrev pub invariant-loop-photo : goal.invariant-loop-photo
invariant-loop-photo l = record {
  so_far : l.all.items ≡ map greatest_ticks (take l.photo-index l.photos);
  most : All (λ n. n ≤ greatest_total) l.all.items;
  kept : AreKept (take l.photo-index l.photos);
}
