use Rattle.patch_mesh.proofs.Fits.{blocks_in_largest}
use Rattle.patch_mesh.proofs.grid.task_point.Goals as goal

pub is_covered-requires : goal.is_covered-requires
is_covered-requires c = blocks_in_largest _ _ c.requires.accepted c.as_slice.ensures
