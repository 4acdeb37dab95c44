-- What a run may answer to `dim` of an accepted room and a plan of its lamps. `least` is the average that is asked for, in thousandths of a
-- lux.
use Rattle.std.specs.Prelude.{ℕ, ◌≡◌, ◌≢◌, ◌≤◌, ◌⊎◌, List, ◌++◌, length, codes, Option, Some, Ok, Err}
use Rattle.decimal_text.specs.Lines.{line}
use Rattle.dimming_plan.specs.Dimming.{IsDimmed}
use Rattle.dimming_plan.specs.FaultText.{fault_text}
use Rattle.dimming_plan.specs.Lines.{plan_text}
use Rattle.dimming_plan.specs.PlanFile.{plan_of}
use Rattle.dimming_plan.specs.declared.entry.PlanLamp.{PlanLamp}
use Rattle.dimming_plan.specs.declared.fault.PlanFault.{PlanFault}
use Rattle.dimming_plan.specs.declared.fault.PlanFault.TheVariants as plan_fault
use Rattle.dimming_plan.specs.declared.power.PowerBracket.{PowerBracket}
use Rattle.lux_io.specs.Files.{bytes_of}
use Rattle.photo_table.specs.Table.{Table}
use Rattle.room_layout.specs.declared.room.Room.{Room}
use Rattle.lux_core.specs.LampFiles.{LampFile, HasLampFiles, HasUnreadFile, tables_of}
use Rattle.lux_core.specs.LightAnswers.{IsServed, IsNotServed, CanLight}
use Rattle.lux_core.specs.Runs.{Run, EndedWith, IsContent, longest_file}
use Rattle.lux_core.specs.Untaken.{IsUntaken}
use Rattle.lux_core.specs.declared.status.Status.{Status}
use Rattle.lux_core.specs.declared.status.Status.TheVariants as status

-- ---- what the bytes of the plan's file give

-- the bytes are no plan of so many lamps
pub record IsRefusedPlan (room : Room) (bytes : List ℕ) (given : Status) (text : List ℕ) : Type 0 where
  pub status_is : given ≡ status.Refused
  pub fault : PlanFault
  pub no_want : fault ≢ plan_fault.Memory
  pub refused : plan_of bytes (length room.lamps) ≡ Err fault
  pub text_is : text ≡ line (codes "refused plan " ++ fault_text fault)

-- the room is served, and these are its plans of least power
pub record IsPlanTold (least : ℕ) (tables : List Table) (room : Room) (plan : List PlanLamp) (given : Status) (text : List ℕ) : Type 0 where
  pub served : IsServed tables room
  pub status_is : given ≡ status.Done
  pub found : PowerBracket
  pub dimmed : IsDimmed tables room plan least found
  pub text_is : text ≡ plan_text found

-- a room with just the lamps of a group has the rows of the whole room, so that a row that is heavy with them is told as one of the room
abbrev pub IsSaidByPlan : (least : ℕ) → List Table → Room → List PlanLamp → Status → List ℕ → Type 0
IsSaidByPlan least tables room plan given text = IsNotServed tables room given text ⊎ IsPlanTold least tables room plan given text

-- the bytes are a plan
pub record IsOfPlan (least : ℕ) (tables : List Table) (room : Room) (bytes : List ℕ) (given : Status) (text : List ℕ) : Type 0 where
  pub plan : List PlanLamp
  pub read : plan_of bytes (length room.lamps) ≡ Ok plan
  pub said : IsSaidByPlan least tables room plan given text

abbrev pub IsSaidOfPlan : (least : ℕ) → List Table → Room → (bytes : List ℕ) → Status → List ℕ → Type 0
IsSaidOfPlan least tables room bytes given text = IsRefusedPlan room bytes given text ⊎ IsOfPlan least tables room bytes given text

-- ---- what the name of the plan's file gives

-- the file was read whole, and its bytes give this
pub record IsOfPlanBytes (least : ℕ) (r : Run) (tables : List Table) (room : Room) (name : List ℕ) (given : Status) (text : List ℕ) : Type 0 where
  pub bytes : List ℕ
  pub content : IsContent r.files name bytes
  pub ended : EndedWith r (Some bytes)
  pub said : IsSaidOfPlan least tables room bytes given text

-- or it wasn't taken from the shelf
abbrev pub IsPlanAnswer : (least : ℕ) → Run → List Table → Room → (name : List ℕ) → Status → List ℕ → Type 0
IsPlanAnswer least r tables room name given text = IsUntaken r name given text ⊎ IsOfPlanBytes least r tables room name given text

-- the files of the room's lamps were read, and then the plan was looked at
pub record IsOfDim (least : ℕ) (r : Run) (room : Room) (name : List ℕ) (given : Status) (text : List ℕ) : Type 0 where
  pub reads : List LampFile
  pub lamp_files : HasLampFiles r room reads
  pub said : IsPlanAnswer least r (tables_of reads) room name given text

abbrev pub IsDimAnswer : (least : ℕ) → Run → Room → (name : List ℕ) → Status → List ℕ → Type 0
IsDimAnswer least r room name given text = HasUnreadFile r room.files given text ⊎ IsOfDim least r room name given text

-- ---- where it has to be told

-- the room can be lit, and the plan's file is on the shelf, not too long and accepted
pub record CanDim (told : List (List ℕ × List ℕ)) (room : Room) (name : List ℕ) : Type 0 where
  pub light : CanLight (Some told) room
  pub bytes : List ℕ
  pub found : bytes_of name told ≡ Some bytes
  pub few : length bytes ≤ longest_file
  pub plan : List PlanLamp
  pub read : plan_of bytes (length room.lamps) ≡ Ok plan
