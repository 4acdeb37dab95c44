use Rattle.std.proofs.Common.{◌≡◌, ◌++◌, map, take}
use Rattle.patch_mesh.specs.Patches.{tiling_of}
use Rattle.patch_mesh.proofs.make.put_tilings.Given as goal

abbrev pub invariant-loop-surface : goal.invariant-loop-surface
invariant-loop-surface l = l.tilings.items ≡ l.initial.tilings.items ++ map (tiling_of l.longest) (take l.surface-index l.surfaces)
