use Rattle.std.proofs.Common.{◌+◌, ◌≡◌, length, arith}
use Rattle.room_layout.specs.Place.{place_of}
use Rattle.direct_light.specs.Lamps.{part_count}
use Rattle.direct_light.proofs.Found.{all_points, no_points, one_more_point, parts_of, points_fit}
use Rattle.scene_system.specs.Causes.{ticks_of}
use Rattle.scene_system.proofs.Lights.{lamp_bounds, lamp_count, share_at}
use Rattle.scene_system.proofs.light.light_of_lamp.Goals as goal

pub loop-i-init : goal.loop-i-init
loop-i-init c =
    let photos = c.args.sources.now.photos.now in
    let l = c.args.lamp.now in
    no_points photos (ticks_of photos l) c.args.sources.now.room.now (place_of c.args.at.now.at) c.args.face l c.whole-light.result c.whole-light.ensures.low c.whole-light.ensures.high

pub together-light-requires-clause-a_high : goal.together-light-requires-clause-a_high
together-light-requires-clause-a_high c =
    let photos = c.args.sources.now.photos.now in
    let room = c.args.sources.now.room.now in
    let l = c.args.lamp.now in
    let count : length c.args.points.now ≡ part_count l = lamp_count l c.args.points.now c.requires.points.are in
    let inside = c.loop-i-test.true in
    let parts = parts_of room.size (length room.files) l c.requires.lamp in
    points_fit photos (ticks_of photos l) room (place_of c.args.at.now.at) c.args.face l c.loop-i.i c.loop-i.light parts.1 (omega (arith, count, inside)) c.loop-i.invariant

pub loop-i-preserved : goal.loop-i-preserved
loop-i-preserved c =
    let photos = c.args.sources.now.photos.now in
    let room = c.args.sources.now.room.now in
    let l = c.args.lamp.now in
    let count : length c.args.points.now ≡ part_count l = lamp_count l c.args.points.now c.requires.points.are in
    let inside = c.loop-i-test.true in
    let parts = parts_of room.size (length room.files) l c.requires.lamp in
    one_more_point photos (ticks_of photos l) room (place_of c.args.at.now.at) c.args.face l c.loop-i.light c.light_of_point-share.result c.together-light.result c.loop-i.i (c.loop-i.i + 1)
    (omega arith) parts.0 (lamp_bounds photos room l c.requires.lamp c.requires.sources.files c.requires.sources.kept) c.loop-i.invariant
    (share_at photos room (place_of c.args.at.now.at) c.args.face l c.args.points.now c.loop-i.i _ c.light_of_point-share.result c.requires.points.are (omega (arith, count, inside))
    c.light_of_point-share.ensures.light)
    c.together-light.ensures.low c.together-light.ensures.high

pub returns-clause-light : goal.returns-clause-light
returns-clause-light c =
    let photos = c.args.sources.now.photos.now in
    let room = c.args.sources.now.room.now in
    let l = c.args.lamp.now in
    let count : length c.args.points.now ≡ part_count l = lamp_count l c.args.points.now c.requires.points.are in
    let past = c.loop-i-test.false in
    let most = c.loop-i.auto.i-end in
    let parts = parts_of room.size (length room.files) l c.requires.lamp in
    all_points photos (ticks_of photos l) room (place_of c.args.at.now.at) c.args.face l c.loop-i.i c.loop-i.light (omega (arith, count, past, most)) parts.0 c.loop-i.invariant

pub returns-clause-high : goal.returns-clause-high
returns-clause-high c =
    let bound = lamp_bounds c.args.sources.now.photos.now c.args.sources.now.room.now c.args.lamp.now c.requires.lamp c.requires.sources.files c.requires.sources.kept in
    let most = (returns-clause-light c).most in
    omega (arith, most, bound)
