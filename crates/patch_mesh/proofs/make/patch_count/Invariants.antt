use Rattle.std.proofs.Common.{◌≡◌, ◌≤◌, ◌*◌, take, length}
use Rattle.std.specs.List.{flat_map}
use Rattle.patch_mesh.specs.Patches.{tiling_patches}
use Rattle.patch_mesh.proofs.make.patch_count.Given as goal

abbrev pub invariant-loop-t : goal.invariant-loop-t
invariant-loop-t l = record {
  value : l.count ≡ length (flat_map tiling_patches (take l.t-index l.tilings));
  small : l.count ≤ l.t-index * 10000000000;
}
