use Rattle.std.proofs.Common.{◌≡◌, ◌++◌}
use Rattle.patch_mesh.specs.Patches.{patch_at}
use Rattle.patch_mesh.proofs.Rows.{first_rows}
use Rattle.patch_mesh.proofs.tiling.put_patches.Given as goal

abbrev pub invariant-loop-j : goal.invariant-loop-j
invariant-loop-j l = l.patches.items ≡ l.initial.patches.items ++ first_rows (patch_at l.t) l.t.columns l.j
