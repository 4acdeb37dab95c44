-- The light that all lamps of a room give at a place: what falls on a plane there, in lux.
use Rattle.std.specs.Prelude.{ℕ, Bool, List, length, slice_index_or}
use Rattle.fx_base.specs.Interval.{Interval, sum_of}
use Rattle.room_layout.specs.Place.{Place}
use Rattle.room_layout.specs.declared.geometry.Face.{Face}
use Rattle.room_layout.specs.declared.room.Lamp.{Lamp}
use Rattle.room_layout.specs.declared.room.Room.{Room}
use Rattle.photo_table.specs.Table.{Table}
use Rattle.direct_light.specs.LampLight.{light_of_lamp}
use Rattle.direct_light.specs.Shares.{share, loose_share}
pub use Rattle.direct_light.specs.LampLight.{no_lamp}

-- where `share` says what one point of a lamp gives
abbrev pub light_of_room : (Lamp → Place → Place → Face → Bool → Interval) → Room → Place → Face → Interval
light_of_room share room p face = sum_of (length room.lamps) (λ k. light_of_lamp share room p face (slice_index_or room.lamps k no_lamp))

-- ---- where `tables` are the exact tables of the room's files, in their order

abbrev pub direct_light : ℕ → List Table → Room → Place → Face → Interval
direct_light n tables room p face = light_of_room (share n tables) room p face

abbrev pub loose_direct_light : ℕ → List Table → Room → Place → Face → Interval
loose_direct_light n tables room p face = light_of_room (loose_share n tables) room p face
