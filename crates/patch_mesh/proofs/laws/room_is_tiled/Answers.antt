use Rattle.patch_mesh.proofs.Fits.{room_tiled}
use Rattle.patch_mesh.proofs.laws.room_is_tiled.Goals as goal

pub returns : goal.returns
returns c = room_tiled
