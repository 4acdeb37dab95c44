-- The points of the next lamp lie in the room, and their vantages follow those of the lamps before.
use Rattle.std.proofs.Common.{◌<◌, length}
use Rattle.std.specs.Prelude.{slice_index_or}
use Rattle.std.proofs.lemmas.List.Elements.{All-get_or}
use Rattle.room_layout.specs.Accepted.{IsLampIn}
use Rattle.scene_system.specs.Light.{no_lamp}
use Rattle.scene_system.proofs.Seen.{lamp_points_in, lamps_more}
use Rattle.scene_system.proofs.lamps.points_of_lamps.Goals as goal

pub vantages_of-requires : goal.vantages_of-requires
vantages_of-requires c =
    let room = c.args.room.now in
    let inside : c.loop-k.k < length room.lamps = rw c.as_slice-lamps.ensures at c.loop-k-test.true in
    let lamp = All-get_or (IsLampIn room.size (length room.files)) room.lamps c.loop-k.k no_lamp inside c.requires.accepted.each_lamp in
    rw c.as_slice.ensures.value
    (lamp_points_in room c.args.index.now (length room.files) (slice_index_or room.lamps c.loop-k.k no_lamp) c.in_ok-places.places.items c.requires lamp (rw c.as_slice-lamps.ensures at c.in_ok-places.ensures.points))

pub loop-k-preserved : goal.loop-k-preserved
loop-k-preserved c =
    rw c.in_ok-push.ensures.items (lamps_more c.args.room.now c.args.index.now c.loop-k.k c.loop-k.all.items _ c.loop-k.invariant
    (rw (c.as_slice.ensures.value, c.in_ok-places.ensures.points, c.as_slice-lamps.ensures) at c.in_ok-points.ensures))
