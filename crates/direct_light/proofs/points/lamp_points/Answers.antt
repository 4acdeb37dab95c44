use Rattle.direct_light.proofs.PointLists.{first_start, first_step}
use Rattle.direct_light.proofs.points.lamp_points.Goals as goal

pub loop-k-init : goal.loop-k-init
loop-k-init c = first_start _ _ c.new-points.ensures.items

pub loop-k-preserved : goal.loop-k-preserved
loop-k-preserved c = first_step _ _ _ _ _ c.loop-k.invariant c.lamp_point.ensures.point c.lamp_point.ensures.within c.in_ok-push.ensures.items
