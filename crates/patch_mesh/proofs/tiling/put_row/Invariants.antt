use Rattle.std.proofs.Common.{◌≡◌, ◌++◌, map}
use Rattle.patch_mesh.specs.Cuts.{below}
use Rattle.patch_mesh.specs.Patches.{patch_at}
use Rattle.patch_mesh.proofs.tiling.put_row.Given as goal

abbrev pub invariant-loop-i : goal.invariant-loop-i
invariant-loop-i l = l.patches.items ≡ l.initial.patches.items ++ map (patch_at l.t l.j) (below l.i)
