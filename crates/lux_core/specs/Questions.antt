-- The ranges of what is asked.
use Rattle.std.specs.Prelude.{ℕ, ◌≤◌}
use Rattle.escape_route.specs.Routes.{IsWithinReach as IsRouteWithinReach}
use Rattle.sight_line.specs.Reach.{IsInReach}
use Rattle.lux_core.specs.declared.words.FileQuestion.{FileQuestion}
use Rattle.lux_core.specs.declared.words.FileQuestion.TheVariants as file
use Rattle.lux_core.specs.declared.words.Question.{Question}
use Rattle.lux_core.specs.declared.words.Question.TheVariants as question
use Rattle.lux_core.specs.declared.words.Format.{Format}
use Rattle.lux_core.specs.declared.words.Format.TheVariants.{Lm63, Eulumdat}
use Rattle.lux_core.specs.declared.words.PhotometryQuestion.{PhotometryQuestion}
use Rattle.lux_core.specs.declared.words.PhotometryQuestion.TheVariants.{Summary, Flux}
use Rattle.lux_core.specs.declared.words.RoomQuestion.{RoomQuestion}
use Rattle.lux_core.specs.declared.words.RoomQuestion.TheVariants.{Light, Check, Dim, Sight, Escape}

-- points, and ends of a route, within 100 m of the corner of the room
abbrev pub IsWithinReach : RoomQuestion → Type 0
IsWithinReach (Light asked) = Unit {0}
IsWithinReach Check = Unit {0}
IsWithinReach (Dim least) = Unit {0}
IsWithinReach (Sight p q) = IsInReach p × IsInReach q
IsWithinReach (Escape route limits) = IsRouteWithinReach route

-- the number of a lamp set
abbrev pub IsLampSet : ℕ → Type 0
IsLampSet set = (1 ≤ set) × (set ≤ 20)

-- a format that chooses no lamp set, or one by its number
abbrev pub IsFormat : Format → Type 0
IsFormat Lm63 = Unit {0}
IsFormat (Eulumdat set) = IsLampSet set

-- a number of lumens that can be told
abbrev pub IsWithinLumens : PhotometryQuestion → Type 0
IsWithinLumens Summary = Unit {0}
IsWithinLumens (Flux lumens) = lumens ≤ 1000000

-- what is asked of a file
abbrev pub IsFileQuestion : FileQuestion → Type 0
IsFileQuestion (file.Room asked) = IsWithinReach asked
IsFileQuestion (file.Photometry format asked) = IsFormat format × IsWithinLumens asked

-- the number of a made room
abbrev pub IsRoomNumber : ℕ → Type 0
IsRoomNumber n = (1 ≤ n) × (n ≤ 40)

abbrev pub IsInRange : Question → Type 0
IsInRange (question.File asked) = IsFileQuestion asked
IsInRange (question.Trial n) = IsRoomNumber n
