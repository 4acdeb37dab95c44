-- The lists so far are reserved, and as many as were counted.
use Rattle.std.proofs.Common.{◌≡◌, All, length}
use Rattle.scene_system.specs.Reserved.{IsReserved}
use Rattle.scene_system.proofs.lists.reserved_lists.Given as goal

abbrev pub invariant-loop : goal.invariant-loop
invariant-loop l = record {
  count : length l.lists.items ≡ l.counter;
  room : All (IsReserved l.size) l.lists.items;
}
