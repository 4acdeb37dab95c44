-- What holds of the lines of a route.
use Rattle.std.specs.Prelude.{ℕ, ◌≡◌, ◌<◌, ◌≤◌, List, length, Option, IfSome, IsSome}
use Rattle.fx_base.specs.Ends.{Ends}
use Rattle.fx_base.specs.Fraction.{ratio}
use Rattle.fx_base.specs.Interval.{Interval, Meets, LiesIn, outward}
use Rattle.limit_verdict.specs.declared.verdict.Verdict.{Verdict}
use Rattle.photo_table.specs.Table.{Table}
use Rattle.room_layout.specs.declared.geometry.Point.{Point}
use Rattle.room_layout.specs.declared.room.Room.{Room}
use Rattle.direct_light.specs.Tables.{AreTablesOf}
use Rattle.escape_route.specs.Found.{AreExtremes}
use Rattle.escape_route.specs.Light.{greatest_light, least_light, loose_greatest_light, loose_least_light}
use Rattle.escape_route.specs.Printed.{printed_hi, printed_lo, route_lines, route_verdict, IsRouteText}
use Rattle.escape_route.specs.Ratios.{IsNearRatio, MeetsRatio}
use Rattle.escape_route.specs.Routes.{AreRoutePoints}
use Rattle.escape_route.specs.declared.ends.Extremes.{Extremes}
use Rattle.escape_route.specs.declared.lines.RouteLimits.{RouteLimits}
use Rattle.escape_route.specs.declared.route.Route.{Route}

-- the printed interval, in lux
abbrev pub printed : Ends → Interval
printed span = record { lo = ratio (printed_lo span) 100; hi = ratio (printed_hi span) 100 }

-- it meets an exact light at every depth, and lies within the loose one moved outward by a hundredth
pub record IsRightLight (exact loose : ℕ → Interval) (span : Ends) : Type 0 where
  pub meets : (n : ℕ) → Meets (printed span) (exact n)
  pub near : (n : ℕ) → LiesIn (printed span) (outward (ratio 1 100) (loose n))

-- a printed ratio meets that of the greatest to the least light at every depth, and lies within that of the loose ones moved outward by a
-- thousandth; it is printed where the loose least light is above 0
pub record IsRightRatio (least greatest loose_least loose_greatest : ℕ → Interval) (printed : Option (ℕ × ℕ)) : Type 0 where
  pub in_order : IfSome printed (λ r. r.0 ≤ r.1)
  pub meets : (n : ℕ) → IfSome printed (λ r. MeetsRatio r.0 r.1 (least n) (greatest n))
  pub near : (n : ℕ) → IfSome printed (λ r. IsNearRatio r.0 r.1 (loose_least n) (loose_greatest n))
  pub given : (n : ℕ) → 0 < (loose_least n).lo.num → IsSome printed

-- the text has the lines of the points of a route, whose light by the exact tables and whose ratio are right, and v is the worse of the
-- verdicts on what is printed
pub record IsRightRoute (tables : List Table) (room : Room) (route : Route) (marked : List ℕ) (limits : RouteLimits) (v : Verdict) (text : List ℕ) : Type 0 where
  pub points : List Point
  pub are : AreRoutePoints route points
  pub found : Extremes
  pub least_is : IsRightLight (λ n. least_light n tables room marked points) (λ n. loose_least_light n tables room marked points) found.least
  pub greatest_is : IsRightLight (λ n. greatest_light n tables room marked points) (λ n. loose_greatest_light n tables room marked points) found.greatest
  pub printed_ratio : Option (ℕ × ℕ)
  pub ratio_is : IsRightRatio (λ n. least_light n tables room marked points) (λ n. greatest_light n tables room marked points)
      (λ n. loose_least_light n tables room marked points) (λ n. loose_greatest_light n tables room marked points) printed_ratio
  pub verdict_is : v ≡ route_verdict limits found printed_ratio
  pub text_is : text ≡ route_lines (length points) limits found printed_ratio

-- the text of the light that the program finds at the points of a route is right by the tables of the room's files
abbrev pub RouteTextIsRight : Type 0
RouteTextIsRight = (photos tables : List Table) → AreTablesOf photos tables → (room : Room) (route : Route) (marked : List ℕ) (points : List Point) (e : Extremes)
    (limits : RouteLimits) (v : Verdict) (text : List ℕ) → AreRoutePoints route points → AreExtremes photos room marked points e
    → IsRouteText (length points) e limits v text → IsRightRoute tables room route marked limits v text
