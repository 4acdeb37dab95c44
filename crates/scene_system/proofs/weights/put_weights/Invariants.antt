-- The list has the weights of the first patches, and room for the rest.
use Rattle.std.proofs.Common.{◌≤◌, length, vec_capacity}
use Rattle.scene_system.specs.Parts.{IsRowOfFirst}
use Rattle.scene_system.specs.Receivers.{face_lit, place_lit}
use Rattle.scene_system.proofs.weights.put_weights.Given as goal

abbrev pub invariant-loop-j : goal.invariant-loop-j
invariant-loop-j l = record {
  so_far : IsRowOfFirst l.sources.room.now (place_lit l.receiver) (face_lit l.receiver) l.j l.row.items;
  reserved : length l.sources.patches.now ≤ vec_capacity l.row;
}
