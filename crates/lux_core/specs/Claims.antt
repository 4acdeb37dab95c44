-- What a run may answer to `check` of an accepted room and a claim on the light of its patches.
use Rattle.std.specs.Prelude.{ℕ, ◌≡◌, ◌≢◌, ◌≤◌, ◌⊎◌, List, ◌++◌, length, codes, decimal, Option, Some, Ok, Err}
use Rattle.claim_file.specs.Claims.{Claim, claim_of}
use Rattle.claim_file.specs.FaultText.{fault_text}
use Rattle.claim_file.specs.declared.fault.ClaimFault.{ClaimFault}
use Rattle.claim_file.specs.declared.fault.ClaimFault.TheVariants as claim_fault
use Rattle.decimal_text.specs.Lines.{line}
use Rattle.grid_report.specs.PatchBounds.{HoldLight, MayBeUnshown}
use Rattle.lux_io.specs.Files.{bytes_of}
use Rattle.photo_table.specs.Table.{Table}
use Rattle.room_layout.specs.declared.room.Room.{Room}
use Rattle.scene_system.specs.Scene.{patch_count}
use Rattle.lux_core.specs.LampFiles.{LampFile, HasLampFiles, HasUnreadFile, tables_of}
use Rattle.lux_core.specs.LightAnswers.{IsServed, IsNotServed, IsOfTables, CanLight}
use Rattle.lux_core.specs.Runs.{Run, EndedWith, IsContent, longest_file}
use Rattle.lux_core.specs.Untaken.{IsUntaken}
use Rattle.lux_core.specs.declared.status.Status.{Status}
use Rattle.lux_core.specs.declared.status.Status.TheVariants as status

-- ---- what the bytes of the claim's file give

-- the claim is shown, and so its bounds hold the light of each patch
pub record IsShownClaim (tables : List Table) (room : Room) (bytes : List ℕ) (given : Status) (text : List ℕ) : Type 0 where
  pub status_is : given ≡ status.Done
  pub text_is : text ≡ line (codes "shown " ++ decimal (patch_count room))
  pub claim : Claim
  pub read : claim_of bytes (patch_count room) ≡ Ok claim
  pub holds : HoldLight tables room claim.lower claim.upper

-- a patch is named at which the claim may not be shown
pub record IsUnshownClaim (tables : List Table) (room : Room) (bytes : List ℕ) (given : Status) (text : List ℕ) : Type 0 where
  pub status_is : given ≡ status.NotShown
  pub row : ℕ
  pub text_is : text ≡ line (codes "not shown " ++ decimal row)
  pub claim : Claim
  pub read : claim_of bytes (patch_count room) ≡ Ok claim
  pub cause : MayBeUnshown tables room claim.lower claim.upper row

-- the bytes are no claim on so many patches
pub record IsRefusedClaim (room : Room) (bytes : List ℕ) (given : Status) (text : List ℕ) : Type 0 where
  pub status_is : given ≡ status.Refused
  pub fault : ClaimFault
  pub no_want : fault ≢ claim_fault.Memory
  pub refused : claim_of bytes (patch_count room) ≡ Err fault
  pub text_is : text ≡ line (codes "refused claim " ++ fault_text fault)

abbrev pub IsSaidOfClaim : List Table → Room → (bytes : List ℕ) → Status → List ℕ → Type 0
IsSaidOfClaim tables room bytes given text =
    IsShownClaim tables room bytes given text ⊎ IsUnshownClaim tables room bytes given text ⊎ IsRefusedClaim room bytes given text

-- ---- what the name of the claim's file gives

-- the file was read whole, and its bytes give this
pub record IsOfClaimBytes (r : Run) (tables : List Table) (room : Room) (name : List ℕ) (given : Status) (text : List ℕ) : Type 0 where
  pub bytes : List ℕ
  pub content : IsContent r.files name bytes
  pub ended : EndedWith r (Some bytes)
  pub said : IsSaidOfClaim tables room bytes given text

-- or it wasn't taken from the shelf
abbrev pub IsClaimAnswer : Run → List Table → Room → (name : List ℕ) → Status → List ℕ → Type 0
IsClaimAnswer r tables room name given text = IsUntaken r name given text ⊎ IsOfClaimBytes r tables room name given text

-- the room is served, and then its claim was looked at
pub record IsOfClaim (r : Run) (room : Room) (name : List ℕ) (given : Status) (text : List ℕ) : Type 0 where
  pub reads : List LampFile
  pub lamp_files : HasLampFiles r room reads
  pub served : IsServed (tables_of reads) room
  pub said : IsClaimAnswer r (tables_of reads) room name given text

abbrev pub IsCheckAnswer : Run → (before : Option (List ℕ)) → Room → (name : List ℕ) → Status → List ℕ → Type 0
IsCheckAnswer r before room name given text =
    HasUnreadFile r room.files given text ⊎ IsOfTables IsNotServed r before room given text ⊎ IsOfClaim r room name given text

-- ---- where it has to be told

-- the room can be lit, and the claim's file is on the shelf, not too long and accepted
pub record CanCheck (told : List (List ℕ × List ℕ)) (room : Room) (name : List ℕ) : Type 0 where
  pub light : CanLight (Some told) room
  pub bytes : List ℕ
  pub found : bytes_of name told ≡ Some bytes
  pub few : length bytes ≤ longest_file
  pub claim : Claim
  pub read : claim_of bytes (patch_count room) ≡ Ok claim
