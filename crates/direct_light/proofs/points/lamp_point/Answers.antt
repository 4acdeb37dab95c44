use mir.Syntax.{w32}
use mir.Val.{SFits}
use Rattle.std.proofs.Common.{rules}
use Rattle.direct_light.proofs.PointLists.{parts_along, point_is}
use Rattle.direct_light.proofs.Steps.{passed}
use Rattle.direct_light.proofs.points.lamp_point.Goals as goal

pub coordinate-requires : goal.coordinate-requires
coordinate-requires c = (parts_along c.args.lamp.now c.args.k _ _ _ c.requires.lamp c.requires.part c.across-extent.ensures c.across-parts.ensures c.across-part.ensures).x

pub coordinate-requires-2 : goal.coordinate-requires-2
coordinate-requires-2 c = (parts_along c.args.lamp.now c.args.k _ _ _ c.requires.lamp c.requires.part c.across-extent.ensures c.across-parts.ensures c.across-part.ensures).y

pub coordinate-requires-3 : goal.coordinate-requires-3
coordinate-requires-3 c = (parts_along c.args.lamp.now c.args.k _ _ _ c.requires.lamp c.requires.part c.across-extent.ensures c.across-parts.ensures c.across-part.ensures).z

pub returns-clause-point : goal.returns-clause-point
returns-clause-point c =
    let x : SFits w32 c.coordinate.result = search rules in
    let y : SFits w32 c.coordinate-2.result = search rules in
    let z : SFits w32 c.coordinate-3.result = search rules in
    point_is c.args.lamp.now c.args.k _ _ _ _ c.across-extent.ensures c.across-parts.ensures c.across-part.ensures
    (passed _ _ x c.coordinate.ensures.middle) (passed _ _ y c.coordinate-2.ensures.middle) (passed _ _ z c.coordinate-3.ensures.middle)
