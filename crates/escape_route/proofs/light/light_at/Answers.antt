use Rattle.std.proofs.Common.{◌+◌, arith}
use Rattle.room_layout.specs.Place.{place_of}
use Rattle.direct_light.specs.Found.{greatest_intensity}
use Rattle.escape_route.proofs.LampPoints.{lamp_there}
use Rattle.escape_route.proofs.Marked.{all_lights, lights_fit, no_lights, one_more_light}
use Rattle.escape_route.proofs.light.light_at.Goals as goal

pub loop-i-init : goal.loop-i-init
loop-i-init c = no_lights c.args.photos.now c.args.room.now c.args.lamps.now (place_of c.args.at) c.whole-light.result c.whole-light.ensures.low c.whole-light.ensures.high

pub loop-i-preserved : goal.loop-i-preserved
loop-i-preserved c =
    let room = c.args.room.now in
    let p = place_of c.args.at in
    one_more_light c.args.photos.now room c.args.lamps.now p c.loop-i.light c.in_ok-one.one c.together-light.result c.loop-i.i (c.loop-i.i + 1) (omega arith) c.loop-i.invariant
    (lamp_there c.args.photos.now greatest_intensity room p c.as_slice.result.now c.args.lamps.now c.loop-i.i _ c.in_ok-one.one c.as_slice.ensures c.loop-i-test.true c.requires.marked
    c.in_ok-one.ensures.light)
    c.in_ok-one.ensures.high c.together-light.ensures.low c.together-light.ensures.high

pub together-light-requires-clause-a_high : goal.together-light-requires-clause-a_high
together-light-requires-clause-a_high c =
    let inside = c.loop-i-test.true in
    let few = c.requires.few in
    let fits = lights_fit c.args.photos.now c.args.room.now c.args.lamps.now (place_of c.args.at) c.loop-i.i c.loop-i.light (omega (arith, inside, few)) c.loop-i.invariant in
    omega (arith, fits)

pub returns : goal.returns
returns c =
    let past = c.loop-i-test.false in
    let most = c.loop-i.auto.i-end in
    record {
      light = all_lights c.args.photos.now c.args.room.now c.args.lamps.now (place_of c.args.at) c.loop-i.i c.loop-i.light (omega (arith, past, most)) c.requires.few
          c.lo-lower.ensures.in_order c.loop-i.invariant;
    }
