use Rattle.std.proofs.Common.{arith}
use Rattle.escape_route.proofs.Found.{all_values, first_point, one_more_value}
use Rattle.escape_route.proofs.outermost.extremes.Goals as goal

pub loop-k-init : goal.loop-k-init
loop-k-init c = first_point c.args.photos.now c.args.room.now c.args.lamps.now c.args.points.now _ c.in_ok-least.least c.requires.some c.in_ok-least.ensures.light

pub loop-k-preserved : goal.loop-k-preserved
loop-k-preserved c =
    one_more_value c.args.photos.now c.args.room.now c.args.lamps.now c.args.points.now c.loop-k.k _ c.loop-k.least c.loop-k.greatest c.in_ok-light.light c.lesser-least.result
    c.greater-greatest.result c.loop-k.invariant c.loop-k-test.true c.in_ok-light.ensures.light c.lesser-least.ensures.low c.lesser-least.ensures.high c.lesser-least.ensures.light
    c.greater-greatest.ensures.low c.greater-greatest.ensures.high c.greater-greatest.ensures.light

pub returns-clause-extremes : goal.returns-clause-extremes
returns-clause-extremes c =
    let past = c.loop-k-test.false in
    let some = c.requires.some in
    let most = c.loop-k.auto.k-end (omega (arith, some)) in
    all_values c.args.photos.now c.args.room.now c.args.lamps.now c.args.points.now c.loop-k.k c.loop-k.least c.loop-k.greatest (omega (arith, past, most)) c.loop-k.invariant
