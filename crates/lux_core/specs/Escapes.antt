-- What a run may answer to the question on an escape route through an accepted room: which text goes with which status, and what was the
-- cause. `marked` are the numbers of the marked lamps.
use Rattle.std.specs.Prelude.{ℕ, ◌≡◌, ◌≢◌, ◌⊎◌, List, [], ◌++◌, length, codes, decimal, Option}
use Rattle.decimal_text.specs.Lines.{line}
use Rattle.escape_route.specs.Laws.{IsRightRoute}
use Rattle.escape_route.specs.Routes.{IsRouteCause, IsRouteIn}
use Rattle.escape_route.specs.declared.lines.RouteLimits.{RouteLimits}
use Rattle.escape_route.specs.declared.route.Route.{Route}
use Rattle.escape_route.specs.declared.route.RouteFault.{RouteFault}
use Rattle.escape_route.specs.declared.route.RouteFault.TheVariants as route_fault
use Rattle.limit_verdict.specs.declared.verdict.Verdict.{Verdict}
use Rattle.photo_table.specs.Table.{Table}
use Rattle.room_layout.specs.declared.room.Room.{Room}
use Rattle.lux_core.specs.LampFiles.{LampFile, WereRead, HasUnreadFile}
use Rattle.lux_core.specs.LightAnswers.{IsOfTables}
use Rattle.lux_core.specs.Runs.{Run, EndedWith}
use Rattle.lux_core.specs.Spellings.{verdict_status}
use Rattle.lux_core.specs.declared.status.Status.{Status}
use Rattle.lux_core.specs.declared.status.Status.TheVariants as status

-- ---- by the exact tables of the files of the room's lamps

-- the text tells the light along the route, and the status is that of its verdicts
pub record IsRouteTold (route : Route) (limits : RouteLimits) (marked : List ℕ) (tables : List Table) (room : Room) (given : Status) (text : List ℕ) : Type 0 where
  pub served : IsRouteIn room route marked
  pub verdict : Verdict
  pub right : IsRightRoute tables room route marked limits verdict text
  pub status_is : given ≡ verdict_status verdict

-- ---- before any of these files is read

abbrev pub route_fault_text : RouteFault → List ℕ
route_fault_text route_fault.Line = codes "1 Line"
route_fault_text (route_fault.Lamp k) = codes "2 Lamp " ++ decimal k
route_fault_text route_fault.Memory = []

-- the line doesn't lie in the room along an axis, or a marked lamp isn't there
pub record IsRefusedRoute (route : Route) (marked : List ℕ) (r : Run) (before : Option (List ℕ)) (room : Room) (given : Status) (text : List ℕ) : Type 0 where
  pub status_is : given ≡ status.Refused
  pub ended : EndedWith r before
  pub fault : RouteFault
  pub no_want : fault ≢ route_fault.Memory
  pub cause : IsRouteCause room route marked fault
  pub text_is : text ≡ line (codes "refused escape " ++ route_fault_text fault)

-- ---- by the files on the shelf

-- the route is served, and a file of the room's lamps stands in the way
pub record HasUnreadFileFor (route : Route) (marked : List ℕ) (r : Run) (room : Room) (given : Status) (text : List ℕ) : Type 0 where
  pub served : IsRouteIn room route marked
  pub unread : HasUnreadFile r room.files given text

abbrev pub IsEscapeAnswer : Route → RouteLimits → (marked : List ℕ) → Run → (before : Option (List ℕ)) → Room → Status → List ℕ → Type 0
IsEscapeAnswer route limits marked r before room given text =
    IsRefusedRoute route marked r before room given text ⊎ HasUnreadFileFor route marked r room given text
    ⊎ IsOfTables (IsRouteTold route limits marked) r before room given text

-- ---- where it has to be told

-- the route is served, and the files of the room's lamps are on the shelf, not too long and accepted
pub record CanEscape (route : Route) (marked : List ℕ) (told : Option (List (List ℕ × List ℕ))) (room : Room) : Type 0 where
  pub served : IsRouteIn room route marked
  pub reads : List LampFile
  pub all : length reads ≡ length room.files
  pub read : WereRead told room.files reads
