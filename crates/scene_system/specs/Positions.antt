-- The light that the program finds at a place: that of one point of a lamp, and of one lamp. `photos` are the tables that it keeps of the
-- room's files.
use Rattle.std.specs.Prelude.{ℕ, ◌<◌, ◌≡◌, Bool, List, length, slice_index_or}
use Rattle.fx_base.specs.Ends.{Ends}
use Rattle.room_layout.specs.Place.{Place}
use Rattle.room_layout.specs.declared.geometry.Face.{Face}
use Rattle.room_layout.specs.declared.room.Lamp.{Lamp}
use Rattle.room_layout.specs.declared.room.Room.{Room}
use Rattle.sight_index.specs.declared.index.SightIndex.{SightIndex}
use Rattle.photo_table.specs.Table.{Table}
use Rattle.direct_light.specs.Found as found
use Rattle.direct_light.specs.Lamps.{lamp_points}
use Rattle.scene_system.specs.Causes.{ticks_of}
use Rattle.scene_system.specs.Light.{no_lamp}
use Rattle.scene_system.specs.Sight.{AreVantagesOf}
use Rattle.scene_system.specs.declared.lamps.LampPoints.{LampPoints}

-- the points of the first `count` lamps of a room, lamp by lamp
pub record ArePointsOfFirst (room : Room) (index : SightIndex) (count : ℕ) (points : List LampPoints) : Type 0 where
  pub size : length points ≡ count
  pub each : (k : ℕ) (d : LampPoints) → k < length points → AreVantagesOf index (lamp_points (slice_index_or room.lamps k no_lamp)) (slice_index_or points k d).points.items

abbrev pub ArePointsOf : Room → SightIndex → List LampPoints → Type 0
ArePointsOf room index points = ArePointsOfFirst room index (length room.lamps) points

-- the share of a lamp's point q, and the light of all its points together, where the lamp's greatest intensity is that of its file
abbrev pub IsShare : List Table → Lamp → Place → Place → Face → Bool → Ends → Type 0
IsShare photos l q p face clear d = found.IsShare photos (ticks_of photos l) l q p face clear d

abbrev pub IsLampLight : List Table → Room → Place → Face → Lamp → Ends → Type 0
IsLampLight photos room p face l d = found.IsLampLight photos (ticks_of photos l) room p face l d
