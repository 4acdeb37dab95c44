use Rattle.std.proofs.Common.{◌+◌, ◌<◌, ◌≡◌, length, arith}
use Rattle.std.proofs.lemmas.List.Elements.{All-get_or}
use Rattle.room_layout.specs.Accepted.{IsLampIn}
use Rattle.room_layout.specs.Place.{place_of}
use Rattle.scene_system.specs.Light.{no_lamp}
use Rattle.std.specs.Prelude.{slice_index_or}
use Rattle.direct_light.proofs.Found.{parts_of}
use Rattle.scene_system.proofs.Lights.{no_lights, one_more_light}
use Rattle.scene_system.proofs.light.light_at.Goals as goal

pub loop-k-init : goal.loop-k-init
loop-k-init c = no_lights c.args.sources.now.photos.now c.args.sources.now.room.now (place_of c.args.at.now.at) c.args.face c.whole-light.result c.whole-light.ensures.low c.whole-light.ensures.high

pub loop-k-preserved : goal.loop-k-preserved
loop-k-preserved c =
    let size : length c.args.sources.now.lamps.now ≡ length c.args.sources.now.room.now.lamps = c.requires.sources.each_lamp.size in
    let test = c.loop-k-test.true in
    let inside : c.loop-k.k < length c.args.sources.now.room.now.lamps = omega (arith, size, test) in
    let lamp = All-get_or (IsLampIn c.args.sources.now.room.now.size (length c.args.sources.now.room.now.files)) c.args.sources.now.room.now.lamps c.loop-k.k no_lamp inside c.requires.sources.indexed.accepted.each_lamp in
    one_more_light c.args.sources.now.photos.now c.args.sources.now.room.now (place_of c.args.at.now.at) c.args.face c.loop-k.light c.light_of_lamp-one.result c.together-light.result
    c.loop-k.k (c.loop-k.k + 1) (omega arith) inside
    ((parts_of c.args.sources.now.room.now.size (length c.args.sources.now.room.now.files) (slice_index_or c.args.sources.now.room.now.lamps c.loop-k.k no_lamp) lamp).1) c.loop-k.invariant
    (rw c.as_slice-lamps.ensures at c.light_of_lamp-one.ensures.light) c.light_of_lamp-one.ensures.high c.together-light.ensures.low c.together-light.ensures.high
