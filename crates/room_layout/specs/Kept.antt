-- Some of a room's lamps.
use Rattle.std.specs.Prelude.{◌≡◌, Bool, if◌then◌else◌, List, [], ◌∷◌}
use Rattle.room_layout.specs.Accepted.{IsAccepted}
use Rattle.room_layout.specs.declared.room.Lamp.{Lamp}
use Rattle.room_layout.specs.declared.room.Room.{Room}

-- the lamps that are kept, in order
unfoldable pub kept : List Bool → List Lamp → List Lamp
kept [] lamps = []
kept (k ∷ keep) [] = []
kept (k ∷ keep) (l ∷ lamps) = if k then l ∷ kept keep lamps else kept keep lamps

-- the same room with just these lamps; its files stay, used or not
abbrev pub kept_room : List Bool → Room → Room
kept_room keep room = record {
  size = room.size;
  reflect = room.reflect;
  patch = room.patch;
  blocks = room.blocks;
  lamps = kept keep room.lamps;
  files = room.files;
  task = room.task;
  limits = room.limits;
}

abbrev pub IsWithout : Room → List Bool → Room → Type 0
IsWithout room keep r = r ≡ kept_room keep room

-- with some of its lamps an accepted room is still accepted
abbrev pub KeepsAccepted : Type 0
KeepsAccepted = (room r : Room) (keep : List Bool) → IsAccepted room → IsWithout room keep r → IsAccepted r
