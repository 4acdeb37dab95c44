-- The light of marked lamps along a route. `tables` are the exact tables of the room's files, in their order, and `marked` the numbers
-- of the lamps.
use Rattle.std.specs.Prelude.{ℕ, ◌-◌, Bool, List, length, slice_index_or}
use Rattle.fx_base.specs.Interval.{Interval, sum_of}
use Rattle.room_layout.specs.Place.{Place, place_of}
use Rattle.room_layout.specs.declared.geometry.Face.{Face}
use Rattle.room_layout.specs.declared.geometry.Face.TheVariants.{Up}
use Rattle.room_layout.specs.declared.geometry.Point.{Point}
use Rattle.room_layout.specs.declared.room.Lamp.{Lamp}
use Rattle.room_layout.specs.declared.room.Room.{Room}
use Rattle.photo_table.specs.Table.{Table}
use Rattle.direct_light.specs.LampLight.{light_of_lamp, no_lamp}
use Rattle.direct_light.specs.Shares.{share, loose_share}
use Rattle.escape_route.specs.Extremes.{least, greatest}
use Rattle.escape_route.specs.Routes.{point_of_number}

-- ---- at one place, on a plane that faces up

abbrev pub marked_lamp : Room → List ℕ → ℕ → Lamp
marked_lamp room marked i = slice_index_or room.lamps (slice_index_or marked i 0) no_lamp

-- the light of all of them together, where `share` says what one point of a lamp gives
abbrev pub light_of_marked : (Lamp → Place → Place → Face → Bool → Interval) → Room → List ℕ → Place → Interval
light_of_marked share room marked p = sum_of (length marked) (λ i. light_of_lamp share room p Up (marked_lamp room marked i))

abbrev pub route_value : ℕ → List Table → Room → List ℕ → Place → Interval
route_value n tables room marked p = light_of_marked (share n tables) room marked p

abbrev pub loose_route_value : ℕ → List Table → Room → List ℕ → Place → Interval
loose_route_value n tables room marked p = light_of_marked (loose_share n tables) room marked p

-- ---- over all points

abbrev pub value_at : ℕ → List Table → Room → List ℕ → List Point → ℕ → Interval
value_at n tables room marked points k = route_value n tables room marked (place_of (point_of_number points k))

abbrev pub loose_value_at : ℕ → List Table → Room → List ℕ → List Point → ℕ → Interval
loose_value_at n tables room marked points k = loose_route_value n tables room marked (place_of (point_of_number points k))

abbrev pub least_light : ℕ → List Table → Room → List ℕ → List Point → Interval
least_light n tables room marked points = least (length points - 1) (value_at n tables room marked points)

abbrev pub greatest_light : ℕ → List Table → Room → List ℕ → List Point → Interval
greatest_light n tables room marked points = greatest (length points - 1) (value_at n tables room marked points)

abbrev pub loose_least_light : ℕ → List Table → Room → List ℕ → List Point → Interval
loose_least_light n tables room marked points = least (length points - 1) (loose_value_at n tables room marked points)

abbrev pub loose_greatest_light : ℕ → List Table → Room → List ℕ → List Point → Interval
loose_greatest_light n tables room marked points = greatest (length points - 1) (loose_value_at n tables room marked points)
