-- The light that one lamp of a room gives at a place: what falls on a plane there, in lux. Boxes cut it off. `tables` are the exact
-- tables of the room's files, in their order.
use Rattle.std.specs.Prelude.{ℕ, Bool, List}
use Rattle.fx_base.specs.Interval.{Interval, sum_of}
use Rattle.room_layout.specs.Place.{Place}
use Rattle.room_layout.specs.declared.geometry.Face.{Face}
use Rattle.room_layout.specs.declared.geometry.Face.TheVariants.{Up}
use Rattle.room_layout.specs.declared.room.Lamp.{Lamp}
use Rattle.room_layout.specs.declared.room.Room.{Room}
use Rattle.room_layout.specs.declared.room.Shine.TheVariants.{Even}
use Rattle.photo_table.specs.Table.{Table}
use Rattle.sight_line.specs.Sight.{is_clear}
use Rattle.direct_light.specs.Lamps.{lamp_place, part_count}
use Rattle.direct_light.specs.Shares.{share, loose_share}

-- what stands for a lamp past the last one of a room
abbrev pub no_lamp : Lamp
no_lamp = record { at = record { x = 0; y = 0; z = 0 }; shine = Even 0; turn = 0; maintenance = 0; size_x = 0; size_y = 0; split_x = 0; split_y = 0; aim = Up }

-- the shares of all its points together, where `share` says what one of them gives
abbrev pub light_of_lamp : (Lamp → Place → Place → Face → Bool → Interval) → Room → Place → Face → Lamp → Interval
light_of_lamp share room p face l = sum_of (part_count l) (λ k. share l (lamp_place l k) p face (is_clear room (lamp_place l k) p))

abbrev pub lamp_light : ℕ → List Table → Room → Place → Face → Lamp → Interval
lamp_light n tables room p face l = light_of_lamp (share n tables) room p face l

abbrev pub loose_lamp_light : ℕ → List Table → Room → Place → Face → Lamp → Interval
loose_lamp_light n tables room p face l = light_of_lamp (loose_share n tables) room p face l
