-- The rows of the table at whole degrees.
use Rattle.std.proofs.Common.{arith, ◌-◌, ◌*◌}
use Rattle.zonal_flux.proofs.SolidAngles.{near_cosine, far_cosine}
use Rattle.zonal_flux.proofs.zones.cosine_at.Goals as goal

pub returns-then-degrees-le45 : goal.returns-then-degrees-le45
returns-then-degrees-le45 c = near_cosine c.args.degrees (c.args.degrees * 64) c.cos.result (omega arith) (omega arith) c.cos.ensures

pub returns-else-degrees-le45 : goal.returns-else-degrees-le45
returns-else-degrees-le45 c = far_cosine c.args.degrees ((90 - c.args.degrees) * 64) c.sin.result (omega arith) (omega arith) c.sin.ensures
