use Rattle.patch_mesh.proofs.PatchLaws.{tile}
use Rattle.patch_mesh.proofs.laws.patches_tile.Goals as goal

pub returns : goal.returns
returns c = tile
