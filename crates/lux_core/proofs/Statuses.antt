-- An answer's status is never that of a text that couldn't be written.
use Rattle.std.proofs.Common.{ℕ, ◌≡◌, ◌≢◌, ◌⊎◌, inl, inr, List, [], ◌∙◌, sym}
use Rattle.std.specs.Prelude.{Option, Some, None}
use Rattle.dimming_plan.specs.declared.entry.PlanLamp.{PlanLamp}
use Rattle.escape_route.specs.declared.lines.RouteLimits.{RouteLimits}
use Rattle.escape_route.specs.declared.route.Route.{Route}
use Rattle.limit_verdict.specs.Verdicts.{verdicts_of, overall}
use Rattle.limit_verdict.specs.declared.verdict.Verdict.{Verdict}
use Rattle.limit_verdict.specs.declared.verdict.Verdict.TheVariants.{Met, Missed, Undecided}
use Rattle.photo_table.specs.Table.{Table}
use Rattle.report_form.specs.Judged.{ends_of}
use Rattle.report_form.specs.declared.report.Report.{Report as RoomReport}
use Rattle.room_layout.specs.declared.room.Room.{Room}
use Rattle.lux_core.specs.Answers.{IsAnswerTo, IsBytesAnswer, IsFileAnswer}
use Rattle.lux_core.specs.Claims.{IsCheckAnswer, IsClaimAnswer, IsSaidOfClaim}
use Rattle.lux_core.specs.LampFiles.{HasUnreadFile, tables_of}
use Rattle.lux_core.specs.LightAnswers.{IsAsked, IsLightAnswer, IsNotServed}
use Rattle.lux_core.specs.Commands.{file_name, second_name, marked_lamps}
use Rattle.lux_core.specs.Dims.{IsDimAnswer, IsPlanAnswer, IsSaidByPlan, IsSaidOfPlan}
use Rattle.lux_core.specs.Escapes.{IsEscapeAnswer}
use Rattle.lux_core.specs.Photometry.{IsPhotometryAnswer}
use Rattle.lux_core.specs.RoomAnswers.{IsRoomAnswer, IsSaidOf}
use Rattle.lux_core.specs.Runs.{Run}
use Rattle.lux_core.specs.Spellings.{limits_status, verdict_status}
use Rattle.lux_core.specs.Trials.{IsTrialAnswer}
use Rattle.lux_core.specs.Untaken.{IsUntaken}
use Rattle.lux_core.specs.declared.status.Status.{Status}
use Rattle.lux_core.specs.declared.status.Status.TheVariants as status
use Rattle.lux_core.specs.declared.words.FileQuestion.{FileQuestion}
use Rattle.lux_core.specs.declared.words.FileQuestion.TheVariants as file
use Rattle.lux_core.specs.declared.words.LightQuestion.{LightQuestion}
use Rattle.lux_core.specs.declared.words.LightQuestion.TheVariants.{Report, Claim}
use Rattle.lux_core.specs.declared.words.Question.{Question}
use Rattle.lux_core.specs.declared.words.Question.TheVariants as question
use Rattle.lux_core.specs.declared.words.PhotometryQuestion.TheVariants as photometry
use Rattle.lux_core.specs.declared.words.RoomQuestion.{RoomQuestion}
use Rattle.lux_core.specs.declared.words.RoomQuestion.TheVariants as asks
use Rattle.lux_core.specs.declared.words.Spelling.TheVariants.{Lines, Records, Summary, Page}

-- it isn't that of a write fault
abbrev IsWritten : Status → Type 0
IsWritten given = given ≢ status.WriteFault

by_done : (given : Status) → given ≡ status.Done → IsWritten given
by_done given e = λ f. cc

by_refused : (given : Status) → given ≡ status.Refused → IsWritten given
by_refused given e = λ f. cc

by_read_fault : (given : Status) → given ≡ status.ReadFault → IsWritten given
by_read_fault given e = λ f. cc

by_not_shown : (given : Status) → given ≡ status.NotShown → IsWritten given
by_not_shown given e = λ f. cc

verdict_written : (v : Verdict) → IsWritten (verdict_status v)
verdict_written Met = λ f. cc
verdict_written Missed = λ f. cc
verdict_written Undecided = λ f. cc

by_limits : (room : Room) (given : Status) (report : RoomReport) → given ≡ limits_status room.limits (ends_of report) → IsWritten given
by_limits room given report is =
    let e = ends_of report in
    λ f. verdict_written (overall (verdicts_of room.limits e.average_lo e.average_hi e.uniformity)) (sym is ∙ f)

untaken : (r : Run) (name : List ℕ) (given : Status) (text : List ℕ) → IsUntaken r name given text → IsWritten given
untaken r name given text (inl a) = by_refused given a.status_is
untaken r name given text (inr (inl l)) = by_refused given l.status_is
untaken r name given text (inr (inr f)) = by_read_fault given f.status_is

asked : (question : LightQuestion) (name : List ℕ) (tables : List Table) (room : Room) (given : Status) (text : List ℕ) → IsAsked question name tables room given text → IsWritten given
asked (Report Lines) name tables room given text (served, r) = by_limits room given r.report r.status_is
asked (Report Records) name tables room given text (served, r) = by_done given r.status_is
asked (Report (Summary n)) name tables room given text (served, r) = by_done given r.status_is
asked (Report Page) name tables room given text (served, r) = by_limits room given r.report r.status_is
asked Claim name tables room given text (served, c) = by_done given c.status_is

not_served : (tables : List Table) (room : Room) (given : Status) (text : List ℕ) → IsNotServed tables room given text → IsWritten given
not_served tables room given text (inl n) = by_refused given n.status_is
not_served tables room given text (inr h) = by_refused given h.status_is

unread : (r : Run) (room : Room) (given : Status) (text : List ℕ) → HasUnreadFile r room.files given text → IsWritten given
unread r room given text h = elim h.unread [
  | inl u ↦ untaken r _ given text u
  | inr f ↦ by_refused given f.refusal.status_is
]

light : (question : LightQuestion) (name : List ℕ) (r : Run) (before : Option (List ℕ)) (room : Room) (given : Status) (text : List ℕ) → IsLightAnswer question name r before room given text → IsWritten given
light question name r before room given text (inl u) = unread r room given text u
light question name r before room given text (inr o) = elim o.said [
  | inl a ↦ asked question name (tables_of o.reads) room given text a
  | inr n ↦ not_served (tables_of o.reads) room given text n
]

said_of_claim : (tables : List Table) (room : Room) (bytes : List ℕ) (given : Status) (text : List ℕ) → IsSaidOfClaim tables room bytes given text → IsWritten given
said_of_claim tables room bytes given text (inl s) = by_done given s.status_is
said_of_claim tables room bytes given text (inr (inl u)) = by_not_shown given u.status_is
said_of_claim tables room bytes given text (inr (inr f)) = by_refused given f.status_is

claim : (r : Run) (tables : List Table) (room : Room) (name : List ℕ) (given : Status) (text : List ℕ) → IsClaimAnswer r tables room name given text → IsWritten given
claim r tables room name given text (inl u) = untaken r name given text u
claim r tables room name given text (inr o) = said_of_claim tables room o.bytes given text o.said

check : (r : Run) (before : Option (List ℕ)) (room : Room) (name : List ℕ) (given : Status) (text : List ℕ) → IsCheckAnswer r before room name given text → IsWritten given
check r before room name given text (inl u) = unread r room given text u
check r before room name given text (inr (inl o)) = not_served (tables_of o.reads) room given text o.said
check r before room name given text (inr (inr o)) = claim r (tables_of o.reads) room name given text o.said

by_plan : (least : ℕ) (tables : List Table) (room : Room) (plan : List PlanLamp) (given : Status) (text : List ℕ) → IsSaidByPlan least tables room plan given text → IsWritten given
by_plan least tables room plan given text (inl n) = not_served tables room given text n
by_plan least tables room plan given text (inr t) = by_done given t.status_is

said_of_plan : (least : ℕ) (tables : List Table) (room : Room) (bytes : List ℕ) (given : Status) (text : List ℕ) → IsSaidOfPlan least tables room bytes given text → IsWritten given
said_of_plan least tables room bytes given text (inl f) = by_refused given f.status_is
said_of_plan least tables room bytes given text (inr o) = by_plan least tables room o.plan given text o.said

plan : (least : ℕ) (r : Run) (tables : List Table) (room : Room) (name : List ℕ) (given : Status) (text : List ℕ) → IsPlanAnswer least r tables room name given text → IsWritten given
plan least r tables room name given text (inl u) = untaken r name given text u
plan least r tables room name given text (inr o) = said_of_plan least tables room o.bytes given text o.said

dim : (least : ℕ) (r : Run) (room : Room) (name : List ℕ) (given : Status) (text : List ℕ) → IsDimAnswer least r room name given text → IsWritten given
dim least r room name given text (inl u) = unread r room given text u
dim least r room name given text (inr o) = plan least r (tables_of o.reads) room name given text o.said

escape : (route : Route) (limits : RouteLimits) (marked : List ℕ) (r : Run) (before : Option (List ℕ)) (room : Room) (given : Status) (text : List ℕ)
    → IsEscapeAnswer route limits marked r before room given text → IsWritten given
escape route limits marked r before room given text (inl f) = by_refused given f.status_is
escape route limits marked r before room given text (inr (inl u)) = unread r room given text u.unread
escape route limits marked r before room given text (inr (inr o)) = let told = o.said in rw told.status_is (verdict_written told.verdict)

said : (asked : RoomQuestion) (r : Run) (name bytes : List ℕ) (words : List (List ℕ)) (room : Room) (given : Status) (text : List ℕ) → IsSaidOf asked r name bytes words room given text → IsWritten given
said (asks.Light asked) r name bytes words room given text a = light asked name r (Some bytes) room given text a
said asks.Check r name bytes words room given text a = check r (Some bytes) room (second_name words) given text a
said (asks.Dim least) r name bytes words room given text a = dim least r room (second_name words) given text a
said (asks.Escape route limits) r name bytes words room given text a = escape route limits (marked_lamps words) r (Some bytes) room given text a
said (asks.Sight p q) r name bytes words room given text (ended, inl a) = by_done given a.status_is
said (asks.Sight p q) r name bytes words room given text (ended, inr a) = by_done given a.status_is

room : (asked : RoomQuestion) (r : Run) (name bytes : List ℕ) (words : List (List ℕ)) (given : Status) (text : List ℕ) → IsRoomAnswer asked r name bytes words given text → IsWritten given
room asked r name bytes words given text (inl f) = by_refused given f.status_is
room asked r name bytes words given text (inr o) = said asked r name bytes words o.room given text o.said

bytes_answer : (asked : FileQuestion) (r : Run) (name : List ℕ) (words : List (List ℕ)) (bytes : List ℕ) (given : Status) (text : List ℕ) → IsBytesAnswer asked r name words bytes given text → IsWritten given
bytes_answer (file.Room asked) r name words bytes given text a = room asked r name bytes words given text a
bytes_answer (file.Photometry format photometry.Summary) r name words bytes given text (ended, inl a) = by_done given a.status_is
bytes_answer (file.Photometry format (photometry.Flux lumens)) r name words bytes given text (ended, inl a) = by_done given a.status_is
bytes_answer (file.Photometry format asked) r name words bytes given text (ended, inr a) = by_refused given a.status_is

pub file_written : (asked : FileQuestion) (r : Run) (name : List ℕ) (words : List (List ℕ)) (given : Status) (text : List ℕ) → IsFileAnswer asked r name words given text → given ≢ status.WriteFault
file_written asked r name words given text (inl u) = untaken r name given text u
file_written asked r name words given text (inr o) = bytes_answer asked r name words o.bytes given text o.said

trial : (n : ℕ) (r : Run) (given : Status) (text : List ℕ) → IsTrialAnswer n r given text → IsWritten given
trial n r given text (inl f) = by_refused given f.status_is
trial n r given text (inr o) = light (Report (Summary n)) [] r None o.room given text o.said

pub answer_written : (asked : Question) (words : List (List ℕ)) (r : Run) (given : Status) (text : List ℕ) → IsAnswerTo asked words r given text → given ≢ status.WriteFault
answer_written (question.File asked) words r given text a = file_written asked r (file_name words) words given text a
answer_written (question.Trial n) words r given text a = trial n r given text a
