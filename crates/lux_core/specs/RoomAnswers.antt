-- What a run may answer to a question on a room: which text goes with which status, and what was the cause.
use Rattle.std.specs.Prelude.{ℕ, ◌≡◌, ◌≢◌, ◌⊎◌, List, ◌++◌, codes, decimal, Option, Some, Ok, Err}
use Rattle.decimal_text.specs.Lines.{line}
use Rattle.room_layout.specs.FaultText.{fault_text}
use Rattle.room_layout.specs.Layout.{room_of}
use Rattle.room_layout.specs.Place.{Place, place_of}
use Rattle.room_layout.specs.declared.fault.RoomFault.{RoomFault}
use Rattle.room_layout.specs.declared.fault.RoomFault.TheVariants as room_fault
use Rattle.room_layout.specs.declared.room.Room.{Room}
use Rattle.sight_line.specs.Sight.{IsFirstMet, NoneMet}
use Rattle.lux_core.specs.Claims.{IsCheckAnswer, CanCheck}
use Rattle.lux_core.specs.Commands.{second_name, marked_lamps}
use Rattle.lux_core.specs.Dims.{IsDimAnswer, CanDim}
use Rattle.lux_core.specs.Escapes.{IsEscapeAnswer, CanEscape}
use Rattle.lux_core.specs.LightAnswers.{IsLightAnswer, CanLight}
use Rattle.lux_core.specs.Runs.{Run, EndedWith}
use Rattle.lux_core.specs.declared.status.Status.{Status}
use Rattle.lux_core.specs.declared.status.Status.TheVariants as status
use Rattle.lux_core.specs.declared.words.RoomQuestion.{RoomQuestion}
use Rattle.lux_core.specs.declared.words.RoomQuestion.TheVariants.{Light, Check, Dim, Sight, Escape}

-- ---- whether two places of an accepted room see each other

-- the way between them meets no box
pub record IsClear (room : Room) (p q : Place) (given : Status) (text : List ℕ) : Type 0 where
  pub status_is : given ≡ status.Done
  pub none : NoneMet room.blocks p q
  pub text_is : text ≡ line (codes "clear")

-- the first box that the way between them meets
pub record IsBlocked (room : Room) (p q : Place) (given : Status) (text : List ℕ) : Type 0 where
  pub status_is : given ≡ status.Done
  pub box : ℕ
  pub first : IsFirstMet room.blocks p q box
  pub text_is : text ≡ line (codes "blocked " ++ decimal box)

abbrev pub IsSightAnswer : Place → Place → Room → Status → List ℕ → Type 0
IsSightAnswer p q room given text = IsClear room p q given text ⊎ IsBlocked room p q given text

-- ---- what is answered to a question on an accepted room, whose file has this name and these bytes; sight reads no other file

abbrev pub IsSaidOf : RoomQuestion → Run → (name bytes : List ℕ) → (words : List (List ℕ)) → Room → Status → List ℕ → Type 0
IsSaidOf (Light asked) r name bytes words room given text = IsLightAnswer asked name r (Some bytes) room given text
IsSaidOf Check r name bytes words room given text = IsCheckAnswer r (Some bytes) room (second_name words) given text
IsSaidOf (Dim least) r name bytes words room given text = IsDimAnswer least r room (second_name words) given text
IsSaidOf (Escape route limits) r name bytes words room given text = IsEscapeAnswer route limits (marked_lamps words) r (Some bytes) room given text
IsSaidOf (Sight p q) r name bytes words room given text = EndedWith r (Some bytes) × IsSightAnswer (place_of p) (place_of q) room given text

-- ---- what the bytes of a room file of this name give; `words` are those of the command

-- the layout is accepted, and this is said of its room
pub record IsOfRoom (asked : RoomQuestion) (r : Run) (name bytes : List ℕ) (words : List (List ℕ)) (given : Status) (text : List ℕ) : Type 0 where
  pub room : Room
  pub accepted : room_of bytes ≡ Ok room
  pub said : IsSaidOf asked r name bytes words room given text

-- the layout is refused
pub record IsRefusedLayout (r : Run) (last : Option (List ℕ)) (bytes : List ℕ) (given : Status) (text : List ℕ) : Type 0 where
  pub status_is : given ≡ status.Refused
  pub ended : EndedWith r last
  pub fault : RoomFault
  pub refused : room_of bytes ≡ Err fault
  pub no_want : fault ≢ room_fault.Memory
  pub text_is : text ≡ line (codes "refused room " ++ fault_text fault)

abbrev pub IsRoomAnswer : RoomQuestion → Run → (name bytes : List ℕ) → (words : List (List ℕ)) → Status → List ℕ → Type 0
IsRoomAnswer asked r name bytes words given text = IsRefusedLayout r (Some bytes) bytes given text ⊎ IsOfRoom asked r name bytes words given text

-- ---- where it has to be told

-- a room that can be lit by the files that the shelf tells, and for `check` a claim, for `dim` a plan; a route through the room, and files that can be read;
-- sight in every room
abbrev pub IsAbleOf : RoomQuestion → List (List ℕ × List ℕ) → (words : List (List ℕ)) → Room → Type 0
IsAbleOf (Light asked) told words room = CanLight (Some told) room
IsAbleOf Check told words room = CanCheck told room (second_name words)
IsAbleOf (Dim least) told words room = CanDim told room (second_name words)
IsAbleOf (Escape route limits) told words room = CanEscape route (marked_lamps words) (Some told) room
IsAbleOf (Sight p q) told words room = Unit {0}

-- the bytes are a room of which it can be told
pub record CanTell (asked : RoomQuestion) (told : List (List ℕ × List ℕ)) (bytes : List ℕ) (words : List (List ℕ)) : Type 0 where
  pub room : Room
  pub accepted : room_of bytes ≡ Ok room
  pub able : IsAbleOf asked told words room
