-- The lamps of an accepted room.
use Rattle.std.proofs.Common.{ℕ, ◌+◌, ◌*◌, ◌≤◌, arith}
use Rattle.room_layout.specs.Accepted.{IsLampIn, IsRoomSize}
use Rattle.room_layout.specs.Across.{extent_of}
use Rattle.room_layout.specs.declared.geometry.Size.{Size}
use Rattle.room_layout.specs.declared.room.Lamp.{Lamp}
use Rattle.direct_light.specs.Lamps.{IsLamp}

within_reach : (at size edge : ℕ) → 2 * at + size ≤ 2 * edge → edge ≤ 100000 → 2 * at + size ≤ 200000
within_reach at size edge h g = omega (arith, h, g)

pub lamp_of_room : (size : Size) (files : ℕ) (l : Lamp) → IsRoomSize size → IsLampIn size files l → IsLamp l
lamp_of_room size files l room lamp = record {
  x = (lamp.x.1.0, within_reach l.at.x (extent_of l).x size.x lamp.x.1.1 room.x.1);
  y = (lamp.y.1.0, within_reach l.at.y (extent_of l).y size.y lamp.y.1.1 room.y.1);
  z = (lamp.z.1.0, within_reach l.at.z (extent_of l).z size.z lamp.z.1.1 room.z.1);
  turn = lamp.turn;
  maintenance = lamp.maintenance;
  size_x = lamp.size_x;
  size_y = lamp.size_y;
  split_x = lamp.split_x;
  split_y = lamp.split_y;
}
