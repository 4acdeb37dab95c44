-- What a run may answer to `trial`: the summary of the room that a number makes.
use Rattle.std.specs.Prelude.{ℕ, ◌≡◌, ◌⊎◌, List, [], None, Some, Ok}
use Rattle.room_layout.specs.Layout.{room_of}
use Rattle.room_layout.specs.declared.room.Room.{Room}
use Rattle.room_make.specs.Room.{room_text}
use Rattle.lux_core.specs.LightAnswers.{IsLightAnswer, CanLight}
use Rattle.lux_core.specs.RoomAnswers.{IsRefusedLayout}
use Rattle.lux_core.specs.Runs.{Run}
use Rattle.lux_core.specs.declared.status.Status.{Status}
use Rattle.lux_core.specs.declared.words.LightQuestion.TheVariants.{Report}
use Rattle.lux_core.specs.declared.words.Spelling.TheVariants.{Summary}

-- the layout of the made text is accepted, and this is said of its room, which has no file of its own and so no name
pub record IsOfMadeRoom (n : ℕ) (r : Run) (given : Status) (text : List ℕ) : Type 0 where
  pub room : Room
  pub accepted : room_of (room_text n) ≡ Ok room
  pub said : IsLightAnswer (Report (Summary n)) [] r None room given text

abbrev pub IsTrialAnswer : ℕ → Run → Status → List ℕ → Type 0
IsTrialAnswer n r given text = IsRefusedLayout r None (room_text n) given text ⊎ IsOfMadeRoom n r given text

-- the made room can be lit
pub record CanTry (n : ℕ) (told : List (List ℕ × List ℕ)) : Type 0 where
  pub room : Room
  pub accepted : room_of (room_text n) ≡ Ok room
  pub able : CanLight (Some told) room
