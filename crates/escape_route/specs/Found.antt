-- The light along a route as the program finds it, where `photos` are the tables that it keeps of the room's files.
use Rattle.std.specs.Prelude.{ℕ, List}
use Rattle.fx_base.specs.Ends.{Ends}
use Rattle.fx_base.specs.Interval.{Interval, Meets, LiesIn}
use Rattle.fx_base.specs.Units.{of_span}
use Rattle.room_layout.specs.Place.{Place}
use Rattle.room_layout.specs.declared.geometry.Point.{Point}
use Rattle.room_layout.specs.declared.room.Room.{Room}
use Rattle.photo_table.specs.Table.{Table}
use Rattle.direct_light.specs.Tables.{AreTablesOf}
use Rattle.escape_route.specs.Light.{greatest_light, least_light, loose_greatest_light, loose_least_light, loose_route_value, route_value}
use Rattle.escape_route.specs.Ratios.{IsLight}
use Rattle.escape_route.specs.declared.ends.Extremes.{Extremes}

-- a span meets this interval at every depth, and lies in its loose form, whichever exact tables the kept ones are of
pub record IsFound (photos : List Table) (exact loose : ℕ → List Table → Interval) (d : Ends) : Type 0 where
  pub meets : (tables : List Table) → AreTablesOf photos tables → (n : ℕ) → Meets (of_span d) (exact n tables)
  pub near : (tables : List Table) → AreTablesOf photos tables → (n : ℕ) → LiesIn (of_span d) (loose n tables)

-- the light of all marked lamps at a place
pub record IsMarkedLight (photos : List Table) (room : Room) (marked : List ℕ) (p : Place) (d : Ends) : Type 0 where
  pub found : IsFound photos (λ n tables. route_value n tables room marked p) (λ n tables. loose_route_value n tables room marked p) d
  pub light : IsLight d

-- the least and the greatest over all points
pub record AreExtremes (photos : List Table) (room : Room) (marked : List ℕ) (points : List Point) (e : Extremes) : Type 0 where
  pub least_found : IsFound photos (λ n tables. least_light n tables room marked points) (λ n tables. loose_least_light n tables room marked points) e.least
  pub greatest_found : IsFound photos (λ n tables. greatest_light n tables room marked points) (λ n tables. loose_greatest_light n tables room marked points) e.greatest
