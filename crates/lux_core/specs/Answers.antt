-- What a run of the planner may answer: which text goes with which status, and what was the cause. There is one alternative for each cause.
use Rattle.std.specs.Prelude.{ℕ, ◌≡◌, ◌≤◌, ◌⊎◌, List, length, Option, Some, None}
use Rattle.lux_io.specs.Files.{bytes_of}
use Rattle.lux_core.specs.Commands.{question_of, file_name, usage_line}
use Rattle.lux_core.specs.Photometry.{IsPhotometryAnswer, CanSum}
use Rattle.lux_core.specs.RoomAnswers.{IsRoomAnswer, CanTell}
use Rattle.lux_core.specs.Runs.{Run, EndedWith, IsContent, longest_file}
use Rattle.lux_core.specs.Trials.{IsTrialAnswer, CanTry}
use Rattle.lux_core.specs.Untaken.{IsUntaken}
use Rattle.lux_core.specs.declared.status.Status.{Status}
use Rattle.lux_core.specs.declared.status.Status.TheVariants as status
use Rattle.lux_core.specs.declared.words.FileQuestion.{FileQuestion}
use Rattle.lux_core.specs.declared.words.FileQuestion.TheVariants as file
use Rattle.lux_core.specs.declared.words.LightQuestion.TheVariants.{Report}
use Rattle.lux_core.specs.declared.words.Question.{Question}
use Rattle.lux_core.specs.declared.words.Question.TheVariants as question
use Rattle.lux_core.specs.declared.words.RoomQuestion.TheVariants.{Light, Check, Escape}
use Rattle.lux_core.specs.declared.words.Spelling.TheVariants.{Lines, Page}

-- ---- what the bytes of a file give; of a photometric file nothing is told by another file

abbrev pub IsBytesAnswer : FileQuestion → Run → (name : List ℕ) → (words : List (List ℕ)) → (bytes : List ℕ) → Status → List ℕ → Type 0
IsBytesAnswer (file.Room asked) r name words bytes given text = IsRoomAnswer asked r name bytes words given text
IsBytesAnswer (file.Photometry format asked) r name words bytes given text = EndedWith r (Some bytes) × IsPhotometryAnswer format asked name bytes given text

-- ---- what the name of a file gives

-- the file was read whole, and its bytes give this
pub record IsOfBytes (asked : FileQuestion) (r : Run) (name : List ℕ) (words : List (List ℕ)) (given : Status) (text : List ℕ) : Type 0 where
  pub bytes : List ℕ
  pub read : IsContent r.files name bytes
  pub said : IsBytesAnswer asked r name words bytes given text

-- or it wasn't taken from the shelf
abbrev pub IsFileAnswer : FileQuestion → Run → (name : List ℕ) → (words : List (List ℕ)) → Status → List ℕ → Type 0
IsFileAnswer asked r name words given text = IsUntaken r name given text ⊎ IsOfBytes asked r name words given text

-- ---- the answer to the words

-- the words are no command
pub record IsUsage (words : List (List ℕ)) (given : Status) (text : List ℕ) : Type 0 where
  pub status_is : given ≡ status.Usage
  pub none : question_of words ≡ None
  pub text_is : text ≡ usage_line

-- what is asked, of the file that the second word names or of a made room
abbrev pub IsAnswerTo : Question → List (List ℕ) → Run → Status → List ℕ → Type 0
IsAnswerTo (question.File asked) words r given text = IsFileAnswer asked r (file_name words) words given text
IsAnswerTo (question.Trial n) words r given text = IsTrialAnswer n r given text

-- the words ask this, and this is its answer
pub record IsOfQuestion (words : List (List ℕ)) (r : Run) (given : Status) (text : List ℕ) : Type 0 where
  pub asked : Question
  pub command : question_of words ≡ Some asked
  pub answer : IsAnswerTo asked words r given text

-- the text that goes with a status, and why
abbrev pub IsAnswer : List (List ℕ) → Run → Status → List ℕ → Type 0
IsAnswer words r given text = IsUsage words given text ⊎ IsOfQuestion words r given text

-- ---- where an answer has to be given

-- it can be told of these bytes, by the files that the shelf tells
abbrev pub IsAble : FileQuestion → List (List ℕ × List ℕ) → (words : List (List ℕ)) → (bytes : List ℕ) → Type 0
IsAble (file.Room asked) told words bytes = CanTell asked told bytes words
IsAble (file.Photometry format asked) told words bytes = CanSum format bytes

-- the file is on the shelf and not too long, and of its bytes it can be told
pub record CanTellFile (asked : FileQuestion) (told : List (List ℕ × List ℕ)) (name : List ℕ) (words : List (List ℕ)) : Type 0 where
  pub bytes : List ℕ
  pub found : bytes_of name told ≡ Some bytes
  pub few : length bytes ≤ longest_file
  pub able : IsAble asked told words bytes

abbrev pub CanTellOf : Question → List (List ℕ × List ℕ) → List (List ℕ) → Type 0
CanTellOf (question.File asked) told words = CanTellFile asked told (file_name words) words
CanTellOf (question.Trial n) told words = CanTry n told

-- the words ask something that can be told, by a shelf that tells its files
pub record CanAnswer (words : List (List ℕ)) (files : Option (List (List ℕ × List ℕ))) : Type 0 where
  pub asked : Question
  pub command : question_of words ≡ Some asked
  pub told : List (List ℕ × List ℕ)
  pub files_are : files ≡ Some told
  pub able : CanTellOf asked told words

-- the status of a whole answer: that of the limits where a report has its lines or its page or a route is asked for, that of the claim where one is checked,
-- else done
abbrev pub IsFullStatus : Question → Status → Type 0
IsFullStatus (question.File (file.Room (Light (Report Lines)))) given = (given ≡ status.Done) ⊎ (given ≡ status.Missed) ⊎ (given ≡ status.Undecided)
IsFullStatus (question.File (file.Room (Light (Report Page)))) given = (given ≡ status.Done) ⊎ (given ≡ status.Missed) ⊎ (given ≡ status.Undecided)
IsFullStatus (question.File (file.Room (Escape route limits))) given = (given ≡ status.Done) ⊎ (given ≡ status.Missed) ⊎ (given ≡ status.Undecided)
IsFullStatus (question.File (file.Room Check)) given = (given ≡ status.Done) ⊎ (given ≡ status.NotShown)
IsFullStatus _ given = given ≡ status.Done
