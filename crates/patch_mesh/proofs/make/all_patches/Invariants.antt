use Rattle.std.proofs.Common.{◌≡◌, take}
use Rattle.std.specs.List.{flat_map}
use Rattle.patch_mesh.specs.Patches.{tiling_patches}
use Rattle.patch_mesh.proofs.make.all_patches.Given as goal

abbrev pub invariant-loop-t : goal.invariant-loop-t
invariant-loop-t l = l.patches.items ≡ flat_map tiling_patches (take l.t-index l.tilings)
