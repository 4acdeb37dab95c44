use Rattle.std.proofs.Common.{◌+◌, length, arith}
use Rattle.room_layout.specs.Place.{place_of}
use Rattle.room_layout.specs.declared.geometry.Face.TheVariants.{Up}
use Rattle.direct_light.specs.Found.{greatest_intensity}
use Rattle.direct_light.specs.Lamps.{part_count}
use Rattle.direct_light.proofs.Found.{all_points, lamp_most, no_points, one_more_point, parts_of, points_fit, share_most}
use Rattle.escape_route.proofs.LampPoints.{length_points, share_at}
use Rattle.escape_route.proofs.light.light_of_points.Goals as goal

pub loop-i-init : goal.loop-i-init
loop-i-init c = no_points c.args.photos.now greatest_intensity c.args.room.now (place_of c.args.at) Up c.args.lamp.now c.whole-light.result c.whole-light.ensures.low c.whole-light.ensures.high

pub together-light-requires-clause-a_high : goal.together-light-requires-clause-a_high
together-light-requires-clause-a_high c =
    let l = c.args.lamp.now in
    let count = length_points l c.args.points.now c.requires.points in
    let inside = c.loop-i-test.true in
    let parts = parts_of c.args.room.now.size (length c.args.room.now.files) l c.requires.lamp in
    points_fit c.args.photos.now greatest_intensity c.args.room.now (place_of c.args.at) Up l c.loop-i.i c.loop-i.light parts.1 (omega (arith, count, inside)) c.loop-i.invariant

pub together-light-requires-clause-b_high : goal.together-light-requires-clause-b_high
together-light-requires-clause-b_high c =
    let parts = parts_of c.args.room.now.size (length c.args.room.now.files) c.args.lamp.now c.requires.lamp in
    let dim = lamp_most greatest_intensity (part_count c.args.lamp.now) (omega arith) parts.1 in
    let one = share_most _ _ _ parts.0 c.light_of_point-share.ensures.light.most in
    omega (arith, one, dim)

pub loop-i-preserved : goal.loop-i-preserved
loop-i-preserved c =
    let l = c.args.lamp.now in
    let room = c.args.room.now in
    let count = length_points l c.args.points.now c.requires.points in
    let inside = c.loop-i-test.true in
    let parts = parts_of room.size (length room.files) l c.requires.lamp in
    one_more_point c.args.photos.now greatest_intensity room (place_of c.args.at) Up l c.loop-i.light c.light_of_point-share.result c.together-light.result c.loop-i.i (c.loop-i.i + 1)
    (omega arith) parts.0 (lamp_most greatest_intensity (part_count l) (omega arith) parts.1) c.loop-i.invariant
    (share_at c.args.photos.now greatest_intensity room (place_of c.args.at) Up l c.args.points.now c.loop-i.i _ c.light_of_point-share.result c.requires.points (omega (arith, count, inside))
    c.light_of_point-share.ensures.light)
    c.together-light.ensures.low c.together-light.ensures.high

pub returns-clause-light : goal.returns-clause-light
returns-clause-light c =
    let l = c.args.lamp.now in
    let count = length_points l c.args.points.now c.requires.points in
    let past = c.loop-i-test.false in
    let most = c.loop-i.auto.i-end in
    let parts = parts_of c.args.room.now.size (length c.args.room.now.files) l c.requires.lamp in
    all_points c.args.photos.now greatest_intensity c.args.room.now (place_of c.args.at) Up l c.loop-i.i c.loop-i.light (omega (arith, count, past, most)) parts.0 c.loop-i.invariant

pub returns-clause-high : goal.returns-clause-high
returns-clause-high c =
    let parts = parts_of c.args.room.now.size (length c.args.room.now.files) c.args.lamp.now c.requires.lamp in
    let most = (returns-clause-light c).most in
    let dim = lamp_most greatest_intensity (part_count c.args.lamp.now) (omega arith) parts.1 in
    omega (arith, most, dim)
