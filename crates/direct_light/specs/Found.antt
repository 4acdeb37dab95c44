-- The light of a lamp as the program finds it: that of one of its points, and of all of them. `photos` are the tables that it keeps of
-- the room's files, and `greatest` is the most that the lamp shines with, in ticks of 2^-36 cd.
use Rattle.std.specs.Prelude.{ℕ, ◌+◌, ◌*◌, ◌≤◌, pos, ◌≤ℤ◌, Bool, List}
use Rattle.fx_base.specs.Ends.{Ends}
use Rattle.fx_base.specs.Interval.{Meets, LiesIn}
use Rattle.fx_base.specs.Units.{natural, of_span}
use Rattle.room_layout.specs.Place.{Place}
use Rattle.room_layout.specs.declared.geometry.Face.{Face}
use Rattle.room_layout.specs.declared.room.Lamp.{Lamp}
use Rattle.room_layout.specs.declared.room.Room.{Room}
use Rattle.photo_table.specs.Table.{Table}
use Rattle.direct_light.specs.LampLight.{lamp_light, loose_lamp_light}
use Rattle.direct_light.specs.Lamps.{part_count}
use Rattle.direct_light.specs.Shares.{share, loose_share}
use Rattle.direct_light.specs.Tables.{AreTablesOf}

-- 10^7 cd
abbrev pub greatest_intensity : ℕ
greatest_intensity = 687194767360000000

-- the most that a lamp of so many ticks and parts gives, in ticks: at half a millimetre, and what rounding adds for each part
abbrev pub most_light : ℕ → ℕ → ℕ
most_light greatest parts = (greatest + 1) * 4000000 + 2 * parts

-- a span meets the share of a lamp's point q at every depth, and lies in the loose form of it, whichever exact tables the kept ones are of
pub record IsShare (photos : List Table) (greatest : ℕ) (l : Lamp) (q p : Place) (face : Face) (clear : Bool) (d : Ends) : Type 0 where
  pub meets : (tables : List Table) → AreTablesOf photos tables → (n : ℕ) → Meets (of_span d) (share n tables l q p face clear)
  pub near : (tables : List Table) → AreTablesOf photos tables → (n : ℕ) → LiesIn (of_span d) (loose_share n tables l q p face clear)
  pub low : pos 0 ≤ℤ d.lo
  pub most : natural d.hi * part_count l ≤ most_light greatest (part_count l)

-- the same of the light of all its points together
pub record IsLampLight (photos : List Table) (greatest : ℕ) (room : Room) (p : Place) (face : Face) (l : Lamp) (d : Ends) : Type 0 where
  pub meets : (tables : List Table) → AreTablesOf photos tables → (n : ℕ) → Meets (of_span d) (lamp_light n tables room p face l)
  pub near : (tables : List Table) → AreTablesOf photos tables → (n : ℕ) → LiesIn (of_span d) (loose_lamp_light n tables room p face l)
  pub low : pos 0 ≤ℤ d.lo
  pub most : natural d.hi ≤ most_light greatest (part_count l)
