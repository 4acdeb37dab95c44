use Rattle.std.proofs.Common.{arith}
use Rattle.escape_route.proofs.RoutePoints.{all_of, none_yet, one_more}
use Rattle.escape_route.proofs.points.all_points.Goals as goal

pub loop-k-init : goal.loop-k-init
loop-k-init c = none_yet _ _ c.new-points.ensures.items

pub loop-k-preserved : goal.loop-k-preserved
loop-k-preserved c = one_more _ _ _ _ _ c.loop-k.invariant c.point_at.ensures.point c.point_at.ensures.within c.in_ok-push.ensures.items

pub returns-clause-points : goal.returns-clause-points
returns-clause-points c =
    let past = c.loop-k-test.false in
    let most = c.loop-k.auto.k-end in
    let count = c.point_count-k-end.ensures.count in
    all_of _ _ _ (omega (arith, past, most, count)) c.loop-k.invariant

pub returns-clause-within : goal.returns-clause-within
returns-clause-within c = c.loop-k.invariant.within
