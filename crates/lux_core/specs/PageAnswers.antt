-- What a run of the page's program may answer: which text goes with which status, and what was the cause.
use Rattle.std.specs.Prelude.{ℕ, Bool, true, false, ◌≡◌, ◌⊎◌, ◌&&◌, ◌==◌, List, [], length, codes, slice_index_or, Option, Some}
use Rattle.lux_core.specs.Answers.{CanTellFile, IsFileAnswer, IsFullStatus}
use Rattle.lux_core.specs.Commands.{names_file}
use Rattle.lux_core.specs.Runs.{Run}
use Rattle.lux_core.specs.declared.status.Status.{Status}
use Rattle.lux_core.specs.declared.status.Status.TheVariants as status
use Rattle.lux_core.specs.declared.words.FileQuestion.{FileQuestion}
use Rattle.lux_core.specs.declared.words.FileQuestion.TheVariants as file
use Rattle.lux_core.specs.declared.words.LightQuestion.TheVariants.{Report}
use Rattle.lux_core.specs.declared.words.Question.TheVariants as question
use Rattle.lux_core.specs.declared.words.RoomQuestion.TheVariants.{Light}
use Rattle.lux_core.specs.declared.words.Spelling.TheVariants.{Page}

-- ---- the words

-- the words are one, and it names a file
abbrev pub ask_for_a_page : List (List ℕ) → Bool
ask_for_a_page words = length words == 1 && names_file (slice_index_or words 0 [])

-- the name of the room's file
abbrev pub page_name : List (List ℕ) → List ℕ
page_name words = slice_index_or words 0 []

-- the page of the room's report is asked of that file
abbrev pub page_question : FileQuestion
page_question = file.Room (Light (Report Page))

abbrev pub page_usage_line : List ℕ
page_usage_line = codes "usage: lux_page ROOM\n"

-- ---- the answer to the words

-- the words don't name one file
pub record IsPageUsage (words : List (List ℕ)) (given : Status) (text : List ℕ) : Type 0 where
  pub status_is : given ≡ status.Usage
  pub none : ask_for_a_page words ≡ false
  pub text_is : text ≡ page_usage_line

-- they name this file, and the page of its room, or why it isn't made, is the answer
pub record IsOfPage (words : List (List ℕ)) (r : Run) (given : Status) (text : List ℕ) : Type 0 where
  pub one : ask_for_a_page words ≡ true
  pub answer : IsFileAnswer page_question r (page_name words) words given text

-- the text that goes with a status, and why
abbrev pub IsPageAnswer : List (List ℕ) → Run → Status → List ℕ → Type 0
IsPageAnswer words r given text = IsPageUsage words given text ⊎ IsOfPage words r given text

-- ---- where a page has to be given

-- the words name a file of which it can be told, by a shelf that tells its files
pub record CanPage (words : List (List ℕ)) (files : Option (List (List ℕ × List ℕ))) : Type 0 where
  pub one : ask_for_a_page words ≡ true
  pub told : List (List ℕ × List ℕ)
  pub files_are : files ≡ Some told
  pub able : CanTellFile page_question told (page_name words) words

-- the status of a page is that of the limits
abbrev pub IsPageStatus : Status → Type 0
IsPageStatus given = IsFullStatus (question.File page_question) given
