-- What of `points` wants a proof by hand.
use Rattle.std.proofs.Common.{arith}
use Rattle.scene_system.proofs.AtPoints.{same_count}
use Rattle.scene_system.proofs.Means.{no_point}
use Rattle.scene_system.proofs.grid.points.Goals as goal

pub returns-clause-open : goal.returns-clause-open
returns-clause-open c = same_count c.loop-g.values.items c.args.scene.now.points.items (omega (arith, c.loop-g.invariant.size)) (λ g l. (c.loop-g.invariant.each g no_point l).covered_is)
