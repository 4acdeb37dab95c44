-- What a run may answer to a question on the light of an accepted room: which text goes with which status, and what was the cause.
use Rattle.std.specs.Prelude.{ℕ, ◌≡◌, ◌≢◌, ◌⊎◌, List, [], All, ◌++◌, length, codes, decimal, Option}
use Rattle.claim_file.specs.Written.{claim_bytes}
use Rattle.decimal_text.specs.Decimals.{thousandths}
use Rattle.decimal_text.specs.Lines.{line}
use Rattle.fx_base.specs.declared.Tick.{Tick}
use Rattle.grid_report.specs.PatchBounds.{HoldLight, AreNearLight}
use Rattle.photo_table.specs.Table.{Table}
use Rattle.room_layout.specs.Accepted.{IsShine}
use Rattle.room_layout.specs.declared.room.Room.{Room}
use Rattle.scene_system.specs.Causes.{IsCause, IsWithinLimits}
use Rattle.scene_system.specs.RowSums.{MayBeHeavy, NoneIsHeavy, IsMild}
use Rattle.scene_system.specs.declared.fault.SceneFault.{SceneFault}
use Rattle.scene_system.specs.declared.fault.SceneFault.TheVariants as scene_fault
use Rattle.lux_core.specs.LampFiles.{LampFile, WereRead, HasLampFiles, HasUnreadFile, last_read, tables_of}
use Rattle.lux_core.specs.Runs.{Run, EndedWith}
use Rattle.lux_core.specs.Spellings.{IsReport}
use Rattle.lux_core.specs.declared.status.Status.{Status}
use Rattle.lux_core.specs.declared.status.Status.TheVariants as status
use Rattle.lux_core.specs.declared.words.LightQuestion.{LightQuestion}
use Rattle.lux_core.specs.declared.words.LightQuestion.TheVariants.{Report, Claim}

-- ---- by the exact tables of the files of its lamps

-- the room is within its limits, and has no heavy row
pub record IsServed (tables : List Table) (room : Room) : Type 0 where
  -- each lamp shines by a number of candela, or by one of these tables
  pub shining : All (λ l. IsShine (length tables) l.shine) room.lamps
  pub within : IsWithinLimits tables room
  pub none_heavy : NoneIsHeavy room

-- the bounds of a claim hold the light of each patch, and are no further out than the loose light moved by 1/10,000 lux
pub record IsCertificate (tables : List Table) (room : Room) (given : Status) (text : List ℕ) : Type 0 where
  pub status_is : given ≡ status.Done
  pub lower : List Tick
  pub upper : List Tick
  pub text_is : text ≡ claim_bytes lower upper
  pub holds : HoldLight tables room lower upper
  pub near : AreNearLight tables room lower upper

-- what is asked, of a room that is served and whose file has this name
abbrev pub IsAsked : LightQuestion → (name : List ℕ) → List Table → Room → Status → List ℕ → Type 0
IsAsked (Report form) name tables room given text = IsServed tables room × IsReport form name tables room given text
IsAsked Claim name tables room given text = IsServed tables room × IsCertificate tables room given text

abbrev pub scene_fault_text : SceneFault → List ℕ
scene_fault_text scene_fault.TotalIntensity = codes "1 TotalIntensity"
scene_fault_text (scene_fault.TooManyPatches count) = codes "2 TooManyPatches " ++ decimal count
scene_fault_text scene_fault.NoTaskPoint = codes "3 NoTaskPoint"
scene_fault_text scene_fault.Memory = []

-- its lamps are too bright, its patches too many, or its task points covered
pub record HasNoScene (tables : List Table) (room : Room) (given : Status) (text : List ℕ) : Type 0 where
  pub status_is : given ≡ status.Refused
  pub fault : SceneFault
  pub no_want : fault ≢ scene_fault.Memory
  pub cause : IsCause tables room fault
  pub text_is : text ≡ line (codes "refused scene " ++ scene_fault_text fault)

-- a row of its coefficients adds up to too much
pub record HasHeavyRow (tables : List Table) (room : Room) (given : Status) (text : List ℕ) : Type 0 where
  pub status_is : given ≡ status.Refused
  pub within : IsWithinLimits tables room
  pub row : ℕ
  pub sum : ℕ
  pub heavy : MayBeHeavy room row sum
  pub text_is : text ≡ line (codes "refused rows 1 RowSum " ++ decimal row ++ codes " " ++ thousandths sum)

-- the room isn't served
abbrev pub IsNotServed : List Table → Room → Status → List ℕ → Type 0
IsNotServed tables room given text = HasNoScene tables room given text ⊎ HasHeavyRow tables room given text

abbrev pub IsSaidByScene : LightQuestion → (name : List ℕ) → List Table → Room → Status → List ℕ → Type 0
IsSaidByScene asked name tables room given text = IsAsked asked name tables room given text ⊎ IsNotServed tables room given text

-- ---- by the files on the shelf

-- the files of its lamps were read, after the bytes of the room's file where it has one, and this is said by their tables
pub record IsOfTables (Said : List Table → Room → Status → List ℕ → Type 0) (r : Run) (before : Option (List ℕ)) (room : Room) (given : Status) (text : List ℕ) : Type 0 where
  pub reads : List LampFile
  pub lamp_files : HasLampFiles r room reads
  pub ended : EndedWith r (last_read before reads)
  pub said : Said (tables_of reads) room given text

abbrev pub IsLightAnswer : LightQuestion → (name : List ℕ) → Run → (before : Option (List ℕ)) → Room → Status → List ℕ → Type 0
IsLightAnswer asked name r before room given text = HasUnreadFile r room.files given text ⊎ IsOfTables (IsSaidByScene asked name) r before room given text

-- ---- where it has to be told

-- the files of its lamps are on the shelf, not too long and accepted; by their tables the room is within its limits, and its rows are mild
pub record CanLight (told : Option (List (List ℕ × List ℕ))) (room : Room) : Type 0 where
  pub reads : List LampFile
  pub all : length reads ≡ length room.files
  pub read : WereRead told room.files reads
  pub within : IsWithinLimits (tables_of reads) room
  pub mild : IsMild room
