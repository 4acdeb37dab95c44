use Rattle.std.proofs.Common.{length}
use Rattle.direct_light.proofs.Rooms.{lamp_of_room}
use Rattle.escape_route.proofs.light.light_of_lamp.Goals as goal

pub lamp_points-requires : goal.lamp_points-requires
lamp_points-requires c = record { lamp = lamp_of_room c.args.room.now.size (length c.args.room.now.files) c.args.lamp.now c.requires.accepted.size c.requires.lamp }
