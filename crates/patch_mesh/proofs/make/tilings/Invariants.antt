use Rattle.std.proofs.Common.{◌≡◌, ◌++◌, map, take}
use Rattle.std.specs.List.{flat_map}
use Rattle.patch_mesh.specs.Patches.{tiling_of}
use Rattle.patch_mesh.specs.Surfaces.{room_surfaces, block_surfaces}
use Rattle.patch_mesh.proofs.make.tilings.Given as goal

abbrev pub invariant-loop-block : goal.invariant-loop-block
invariant-loop-block l = l.tilings.items ≡ map (tiling_of l.room.patch) (room_surfaces l.room ++ flat_map block_surfaces (take l.block-index l.blocks))
