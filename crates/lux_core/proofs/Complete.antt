-- Where an answer can be given and nothing fails, it is given.
use Rattle.std.proofs.Common.{ℕ, ◌<◌, ◌≡◌, ◌≢◌, ◌⊎◌, inl, inr, List, [], length, refl, sym, ◌∙◌, subst, arith}
use Rattle.std.specs.Prelude.{Bool, true, false, Option, Some, None, Ok, Err}
use Rattle.lux_io.specs.Files.{Rose, Stood}
use Rattle.std.proofs.lemmas.List.Elements.{All-get_or}
use Rattle.claim_file.specs.Claims.{claim_of}
use Rattle.dimming_plan.specs.PlanFile.{plan_of}
use Rattle.escape_route.specs.Routes.{IsRouteCause, IsRouteIn}
use Rattle.escape_route.specs.declared.lines.RouteLimits.{RouteLimits}
use Rattle.escape_route.specs.declared.route.Route.{Route}
use Rattle.escape_route.specs.declared.route.RouteFault.{RouteFault}
use Rattle.escape_route.specs.declared.route.RouteFault.TheVariants as route_fault
use Rattle.limit_verdict.specs.declared.verdict.Verdict.{Verdict}
use Rattle.limit_verdict.specs.declared.verdict.Verdict.TheVariants.{Met, Missed, Undecided}
use Rattle.limit_verdict.specs.Verdicts.{verdicts_of, overall}
use Rattle.photo_table.specs.Table.{Table}
use Rattle.report_form.specs.Judged.{ends_of}
use Rattle.room_layout.specs.Layout.{room_of}
use Rattle.room_layout.specs.declared.room.Room.{Room}
use Rattle.room_make.specs.Room.{room_text}
use Rattle.scene_system.specs.Scene.{patch_count}
use Rattle.lux_core.specs.Answers.{IsBytesAnswer, IsFileAnswer, IsAnswer, IsAnswerTo, CanAnswer, CanTellFile, CanTellOf, IsAble, IsFullStatus}
use Rattle.lux_core.specs.Claims.{IsCheckAnswer, IsClaimAnswer, IsSaidOfClaim, CanCheck}
use Rattle.lux_core.specs.Commands.{question_of, file_name, second_name, marked_lamps}
use Rattle.lux_core.specs.Dims.{IsDimAnswer, IsPlanAnswer, CanDim}
use Rattle.lux_core.specs.Escapes.{CanEscape, IsEscapeAnswer}
use Rattle.lux_core.specs.LampFiles.{tables_of}
use Rattle.lux_core.specs.LightAnswers.{IsAsked, IsLightAnswer, CanLight}
use Rattle.lux_core.specs.PageAnswers.{CanPage, IsPageAnswer, IsPageStatus, page_name, page_question}
use Rattle.lux_core.specs.RoomAnswers.{IsSaidOf, IsRoomAnswer, IsAbleOf}
use Rattle.lux_core.specs.Runs.{Run}
use Rattle.lux_core.specs.Spellings.{verdict_status}
use Rattle.lux_core.specs.Trials.{IsTrialAnswer, CanTry}
use Rattle.lux_core.proofs.Served.{has_no_unread, no_fault, ok_or_fault, ok_same, same_content, served_by, taken_there}
use Rattle.lux_core.specs.declared.words.FileQuestion.{FileQuestion}
use Rattle.lux_core.specs.declared.words.FileQuestion.TheVariants as file
use Rattle.lux_core.specs.declared.words.LightQuestion.{LightQuestion}
use Rattle.lux_core.specs.declared.words.LightQuestion.TheVariants.{Report, Claim}
use Rattle.lux_core.specs.declared.words.PhotometryQuestion.TheVariants as photometry
use Rattle.lux_core.specs.declared.words.RoomQuestion.{RoomQuestion}
use Rattle.lux_core.specs.declared.words.RoomQuestion.TheVariants as asks
use Rattle.lux_core.specs.declared.words.Question.{Question}
use Rattle.lux_core.specs.declared.words.Question.TheVariants as question
use Rattle.lux_core.specs.declared.words.Spelling.TheVariants.{Lines, Records, Summary, Page}
use Rattle.lux_core.specs.declared.status.Status.{Status}
use Rattle.lux_core.specs.declared.status.Status.TheVariants as status

-- ---- the status of what is asked of a room's light

one_of_three : (v : Verdict) → (verdict_status v ≡ status.Done) ⊎ (verdict_status v ≡ status.Missed) ⊎ (verdict_status v ≡ status.Undecided)
one_of_three Met = inl refl
one_of_three Missed = inr (inl refl)
one_of_three Undecided = inr (inr refl)

abbrev full : LightQuestion → Status → Type 0
full asked given = IsFullStatus (question.File (file.Room (asks.Light asked))) given

asked_full : (asked : LightQuestion) (name : List ℕ) (tables : List Table) (room : Room) (given : Status) (text : List ℕ) → IsAsked asked name tables room given text → full asked given
asked_full (Report Lines) name tables room given text (served, r) =
    let e = ends_of r.report in
    rw r.status_is (one_of_three (overall (verdicts_of room.limits e.average_lo e.average_hi e.uniformity)))
asked_full (Report Records) name tables room given text (served, r) = r.status_is
asked_full (Report (Summary n)) name tables room given text (served, r) = r.status_is
asked_full (Report Page) name tables room given text (served, r) =
    let e = ends_of r.report in
    rw r.status_is (one_of_three (overall (verdicts_of room.limits e.average_lo e.average_hi e.uniformity)))
asked_full Claim name tables room given text (served, c) = c.status_is

light_full : (asked : LightQuestion) (name : List ℕ) (r : Run) (told : List (List ℕ × List ℕ)) (before : Option (List ℕ)) (room : Room) (given : Status) (text : List ℕ) → r.files ≡ Some told
    → Stood r.faults.before r.faults.now → CanLight (Some told) room → IsLightAnswer asked name r before room given text → full asked given
light_full asked name r told before room given text e s can (inl u) = absurd (has_no_unread r told room can.reads given text e s can.all can.read u)
light_full asked name r told before room given text e s can (inr o) = elim o.said [
  | inl a ↦ asked_full asked name (tables_of o.reads) room given text a
  | inr none ↦ absurd (served_by r told room o.reads given text e can o.lamp_files.all o.lamp_files.read none)
]

-- ---- a claim that is accepted

claim_full : (r : Run) (told : List (List ℕ × List ℕ)) (room : Room) (name : List ℕ) (tables : List Table) (given : Status) (text : List ℕ) → r.files ≡ Some told
    → Stood r.faults.before r.faults.now → CanCheck told room name → IsClaimAnswer r tables room name given text → (given ≡ status.Done) ⊎ (given ≡ status.NotShown)
claim_full r told room name tables given text e s can (inl u) =
    absurd (taken_there r name can.bytes given text (record { told = told; files_are = e; found = can.found; few = can.few }) s u)
claim_full r told room name tables given text e s can (inr o) = by_alternative o.said
  where
    by_alternative : IsSaidOfClaim tables room o.bytes given text → (given ≡ status.Done) ⊎ (given ≡ status.NotShown)
    by_alternative (inl shown) = inl shown.status_is
    by_alternative (inr (inl unshown)) = inr unshown.status_is
    by_alternative (inr (inr refused)) =
        let same = same_content r name can.bytes o.bytes (record { told = told; files_are = e; found = can.found; few = can.few }) o.content in
        absurd (ok_or_fault (claim_of can.bytes (patch_count room)) can.claim refused.fault can.read
        (subst (λ (b : List ℕ). claim_of b (patch_count room) ≡ Err refused.fault) same refused.refused))

check_full : (r : Run) (told : List (List ℕ × List ℕ)) (before : Option (List ℕ)) (room : Room) (name : List ℕ) (given : Status) (text : List ℕ) → r.files ≡ Some told
    → Stood r.faults.before r.faults.now → CanCheck told room name → IsCheckAnswer r before room name given text → (given ≡ status.Done) ⊎ (given ≡ status.NotShown)
check_full r told before room name given text e s can (inl u) = absurd (has_no_unread r told room can.light.reads given text e s can.light.all can.light.read u)
check_full r told before room name given text e s can (inr (inl o)) = absurd (served_by r told room o.reads given text e can.light o.lamp_files.all o.lamp_files.read o.said)
check_full r told before room name given text e s can (inr (inr o)) = claim_full r told room name (tables_of o.reads) given text e s can o.said

-- ---- a plan that is accepted

dim_full : (least : ℕ) (r : Run) (told : List (List ℕ × List ℕ)) (room : Room) (name : List ℕ) (given : Status) (text : List ℕ) → r.files ≡ Some told
    → Stood r.faults.before r.faults.now → CanDim told room name → IsDimAnswer least r room name given text → given ≡ status.Done
dim_full least r told room name given text e s can (inl u) = absurd (has_no_unread r told room can.light.reads given text e s can.light.all can.light.read u)
dim_full least r told room name given text e s can (inr o) = by_file o.said
  where
    by_file : IsPlanAnswer least r (tables_of o.reads) room name given text → given ≡ status.Done
    by_file (inl u) = absurd (taken_there r name can.bytes given text (record { told = told; files_are = e; found = can.found; few = can.few }) s u)
    by_file (inr b) = elim b.said [
      | inl refused ↦
          let same = same_content r name can.bytes b.bytes (record { told = told; files_are = e; found = can.found; few = can.few }) b.content in
          absurd (ok_or_fault (plan_of can.bytes (length room.lamps)) can.plan refused.fault can.read
          (subst (λ (bytes : List ℕ). plan_of bytes (length room.lamps) ≡ Err refused.fault) same refused.refused))
      | inr of_plan ↦ elim of_plan.said [
        | inl none ↦ absurd (served_by r told room o.reads given text e can.light o.lamp_files.all o.lamp_files.read none)
        | inr plans ↦ plans.status_is
      ]
    ]

-- ---- a route that is served

no_route_fault : (room : Room) (route : Route) (marked : List ℕ) (f : RouteFault) → IsRouteIn room route marked → IsRouteCause room route marked f → f ≢ route_fault.Memory → ⊥
no_route_fault room route marked route_fault.Line served cause known = cause served.line
no_route_fault room route marked (route_fault.Lamp k) served (line, missing) known =
    let below = All-get_or (λ i. i < length room.lamps) marked missing.place 0 missing.within served.marked in
    let is = missing.is in
    let past = missing.missing in
    omega (arith, below, is, past)
no_route_fault room route marked route_fault.Memory served cause known = known refl

escape_full : (route : Route) (limits : RouteLimits) (marked : List ℕ) (r : Run) (told : List (List ℕ × List ℕ)) (before : Option (List ℕ)) (room : Room) (given : Status) (text : List ℕ)
    → r.files ≡ Some told → Stood r.faults.before r.faults.now → CanEscape route marked (Some told) room → IsEscapeAnswer route limits marked r before room given text
    → (given ≡ status.Done) ⊎ (given ≡ status.Missed) ⊎ (given ≡ status.Undecided)
escape_full route limits marked r told before room given text e s can (inl f) = absurd (no_route_fault room route marked f.fault can.served f.cause f.no_want)
escape_full route limits marked r told before room given text e s can (inr (inl u)) = absurd (has_no_unread r told room can.reads given text e s can.all can.read u.unread)
escape_full route limits marked r told before room given text e s can (inr (inr o)) = let told = o.said in rw told.status_is (one_of_three told.verdict)

-- ---- whole answers

abbrev full_of_room : RoomQuestion → Status → Type 0
full_of_room asked given = IsFullStatus (question.File (file.Room asked)) given

said_full : (asked : RoomQuestion) (r : Run) (told : List (List ℕ × List ℕ)) (name bytes : List ℕ) (words : List (List ℕ)) (room : Room) (given : Status) (text : List ℕ) → r.files ≡ Some told
    → Stood r.faults.before r.faults.now → IsAbleOf asked told words room → IsSaidOf asked r name bytes words room given text → full_of_room asked given
said_full (asks.Light asked) r told name bytes words room given text e s can a = light_full asked name r told (Some bytes) room given text e s can a
said_full asks.Check r told name bytes words room given text e s can a = check_full r told (Some bytes) room (second_name words) given text e s can a
said_full (asks.Dim least) r told name bytes words room given text e s can a = dim_full least r told room (second_name words) given text e s can a
said_full (asks.Escape route limits) r told name bytes words room given text e s can a = escape_full route limits (marked_lamps words) r told (Some bytes) room given text e s can a
said_full (asks.Sight p q) r told name bytes words room given text e s can (ended, inl a) = a.status_is
said_full (asks.Sight p q) r told name bytes words room given text e s can (ended, inr a) = a.status_is

room_full : (asked : RoomQuestion) (r : Run) (told : List (List ℕ × List ℕ)) (name bytes : List ℕ) (words : List (List ℕ)) (room : Room) (given : Status) (text : List ℕ) → r.files ≡ Some told
    → Stood r.faults.before r.faults.now → room_of bytes ≡ Ok room → IsAbleOf asked told words room → IsRoomAnswer asked r name bytes words given text → full_of_room asked given
room_full asked r told name bytes words room given text e s accepted able (inl f) = absurd (ok_or_fault (room_of bytes) room f.fault accepted f.refused)
room_full asked r told name bytes words room given text e s accepted able (inr o) =
    let same : o.room ≡ room = ok_same (room_of bytes) o.room room o.accepted accepted in
    said_full asked r told name bytes words room given text e s able (subst (λ (x : Room). IsSaidOf asked r name bytes words x given text) same o.said)

bytes_full : (asked : FileQuestion) (r : Run) (told : List (List ℕ × List ℕ)) (name : List ℕ) (words : List (List ℕ)) (bytes : List ℕ) (given : Status) (text : List ℕ) → r.files ≡ Some told
    → Stood r.faults.before r.faults.now → IsAble asked told words bytes → IsBytesAnswer asked r name words bytes given text → IsFullStatus (question.File asked) given
bytes_full (file.Room asked) r told name words bytes given text e s can a = room_full asked r told name bytes words can.room given text e s can.accepted can.able a
bytes_full (file.Photometry format photometry.Summary) r told name words bytes given text e s can (ended, inl a) = a.status_is
bytes_full (file.Photometry format (photometry.Flux lumens)) r told name words bytes given text e s can (ended, inl a) = a.status_is
bytes_full (file.Photometry format asked) r told name words bytes given text e s can (ended, inr a) = absurd (no_fault format bytes a.fault can a.refused)

file_full : (asked : FileQuestion) (r : Run) (told : List (List ℕ × List ℕ)) (name : List ℕ) (words : List (List ℕ)) (given : Status) (text : List ℕ) → r.files ≡ Some told
    → Stood r.faults.before r.faults.now → CanTellFile asked told name words → IsFileAnswer asked r name words given text → IsFullStatus (question.File asked) given
file_full asked r told name words given text e s can (inl u) =
    absurd (taken_there r name can.bytes given text (record { told = told; files_are = e; found = can.found; few = can.few }) s u)
file_full asked r told name words given text e s can (inr o) =
    let same = same_content r name can.bytes o.bytes (record { told = told; files_are = e; found = can.found; few = can.few }) o.read in
    bytes_full asked r told name words can.bytes given text e s can.able
    (subst (λ (b : List ℕ). IsBytesAnswer asked r name words b given text) same o.said)

trial_full : (n : ℕ) (r : Run) (told : List (List ℕ × List ℕ)) (given : Status) (text : List ℕ) → r.files ≡ Some told
    → Stood r.faults.before r.faults.now → CanTry n told → IsTrialAnswer n r given text → given ≡ status.Done
trial_full n r told given text e s can (inl f) = absurd (ok_or_fault (room_of (room_text n)) can.room f.fault can.accepted f.refused)
trial_full n r told given text e s can (inr o) =
    let same : o.room ≡ can.room = ok_same (room_of (room_text n)) o.room can.room o.accepted can.accepted in
    light_full (Report (Summary n)) [] r told None can.room given text e s can.able
    (subst (λ (x : Room). IsLightAnswer (Report (Summary n)) [] r None x given text) same o.said)

answer_full : (asked : Question) (words : List (List ℕ)) (r : Run) (told : List (List ℕ × List ℕ)) (given : Status) (text : List ℕ) → r.files ≡ Some told
    → Stood r.faults.before r.faults.now → CanTellOf asked told words → IsAnswerTo asked words r given text → IsFullStatus asked given
answer_full (question.File asked) words r told given text e s can a = file_full asked r told (file_name words) words given text e s can a
answer_full (question.Trial n) words r told given text e s can a = trial_full n r told given text e s can a

none_some : {T : Type 0} {t : T} → (let o : Option T = None in o) ≡ Some t → ⊥
none_some h = cc

-- the question is the one that the words ask
same_question : (words : List (List ℕ)) (a b : Question) → question_of words ≡ Some a → question_of words ≡ Some b → a ≡ b
same_question words a b e f = cc

pub full_where_possible : (words : List (List ℕ)) (r : Run) (given : Status) (text : List ℕ) (c : CanAnswer words r.files) → Stood r.faults.before r.faults.now
    → IsAnswer words r given text → IsFullStatus c.asked given
full_where_possible words r given text c s (inl u) = absurd (none_some (sym u.none ∙ c.command))
full_where_possible words r given text c s (inr a) =
    answer_full c.asked words r c.told given text c.files_are s c.able
    (subst (λ (q : Question). IsAnswerTo q words r given text) (same_question words a.asked c.asked a.command c.command) a.answer)

fault_or_not : (s : Status) → (s ≡ status.WriteFault) ⊎ (s ≢ status.WriteFault)
fault_or_not status.WriteFault = inl refl
fault_or_not status.Done = inr (λ e. cc)
fault_or_not status.Refused = inr (λ e. cc)
fault_or_not status.Usage = inr (λ e. cc)
fault_or_not status.ReadFault = inr (λ e. cc)
fault_or_not status.Memory = inr (λ e. cc)
fault_or_not status.Missed = inr (λ e. cc)
fault_or_not status.Undecided = inr (λ e. cc)
fault_or_not status.NotShown = inr (λ e. cc)

-- what is written has the status of the whole answer, where the sink takes it
as_written : (Full : Status → Type 0) (given result : Status) (before now : ℕ) → (result ≢ status.WriteFault → result ≡ given)
    → (result ≡ status.WriteFault → Rose before now) → Stood before now → Full given → Full result ⊎ (result ≡ status.Memory)
as_written Full given result before now same rose out full = elim (fault_or_not result) [
  | inl f ↦ absurd (let h = rose f in omega (arith, h, out.0, out.1))
  | inr n ↦ inl (subst Full (sym (same n)) full)
]

pub complete_written : (words : List (List ℕ)) (r : Run) (given result : Status) (text : List ℕ) (before now : ℕ) (can : CanAnswer words r.files)
    → (result ≢ status.WriteFault → result ≡ given) → (result ≡ status.WriteFault → Rose before now) → Stood before now
    → IsAnswer words r given text → Stood r.faults.before r.faults.now
    → IsFullStatus can.asked result ⊎ (result ≡ status.Memory)
complete_written words r given result text before now can same rose out answer stood =
    as_written (IsFullStatus can.asked) given result before now same rose out (full_where_possible words r given text can stood answer)

-- ---- the page of a room

true_or_false : (b : Bool) → b ≡ true → b ≡ false → ⊥
true_or_false b e f = cc

page_full : (words : List (List ℕ)) (r : Run) (given : Status) (text : List ℕ) → CanPage words r.files → Stood r.faults.before r.faults.now
    → IsPageAnswer words r given text → IsPageStatus given
page_full words r given text c s (inl u) = absurd (true_or_false _ c.one u.none)
page_full words r given text c s (inr a) = file_full page_question r c.told (page_name words) words given text c.files_are s c.able a.answer

pub complete_page : (words : List (List ℕ)) (r : Run) (given result : Status) (text : List ℕ) (before now : ℕ) → CanPage words r.files
    → (result ≢ status.WriteFault → result ≡ given) → (result ≡ status.WriteFault → Rose before now) → Stood before now
    → IsPageAnswer words r given text → Stood r.faults.before r.faults.now
    → IsPageStatus result ⊎ (result ≡ status.Memory)
complete_page words r given result text before now can same rose out answer stood =
    as_written IsPageStatus given result before now same rose out (page_full words r given text can stood answer)
