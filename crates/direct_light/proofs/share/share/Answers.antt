use Rattle.std.proofs.Common.{ap}
use Rattle.fx_base.specs.Units.{natural}
use Rattle.direct_light.proofs.Falls.{made_meets, made_near, made_most}
use Rattle.direct_light.proofs.Quotients.{light_made, light_fits}
use Rattle.direct_light.proofs.share.share.Goals as goal

pub div-light-requires-clause-high : goal.div-light-requires-clause-high
div-light-requires-clause-high c = light_fits c.args.maintenance c.args.parts c.args.ahead c.args.squared _ _ c.requires.some c.requires.apart c.requires.kept
    c.requires.near c.requires.bright (ap natural c.scale_div-spread.ensures.high)

pub returns-clause-meets : goal.returns-clause-meets
returns-clause-meets c = made_meets c.args.maintenance c.args.parts c.args.ahead c.args.squared _ _ _ _ _ _ _ _ c.requires.some c.requires.apart
    (light_made c.args.maintenance c.args.parts c.args.ahead c.args.squared c.args.candela c.root-distance.result c.scale_div-spread.result c.div-light.result
    c.requires.some c.requires.apart c.root-distance.ensures.low c.root-distance.ensures.exact c.root-distance.ensures.next
    c.scale_div-spread.ensures.low c.scale_div-spread.ensures.high c.div-light.ensures.low c.div-light.ensures.high)

pub returns-clause-close : goal.returns-clause-close
returns-clause-close c = made_near c.args.maintenance c.args.parts c.args.ahead c.args.squared _ _ _ _ _ _ _ _ c.requires.some c.requires.apart
    (light_made c.args.maintenance c.args.parts c.args.ahead c.args.squared c.args.candela c.root-distance.result c.scale_div-spread.result c.div-light.result
    c.requires.some c.requires.apart c.root-distance.ensures.low c.root-distance.ensures.exact c.root-distance.ensures.next
    c.scale_div-spread.ensures.low c.scale_div-spread.ensures.high c.div-light.ensures.low c.div-light.ensures.high)

pub returns-clause-most : goal.returns-clause-most
returns-clause-most c = made_most c.args.maintenance c.args.parts c.args.ahead c.args.squared _ _ _ _ _ _ _ _ c.requires.some c.requires.apart c.requires.kept c.requires.near
    (light_made c.args.maintenance c.args.parts c.args.ahead c.args.squared c.args.candela c.root-distance.result c.scale_div-spread.result c.div-light.result
    c.requires.some c.requires.apart c.root-distance.ensures.low c.root-distance.ensures.exact c.root-distance.ensures.next
    c.scale_div-spread.ensures.low c.scale_div-spread.ensures.high c.div-light.ensures.low c.div-light.ensures.high)
