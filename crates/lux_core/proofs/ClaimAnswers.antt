-- What is said of a claim by the numbers of a room's scene.
use Rattle.std.proofs.Common.{ℕ, ◌≡◌, ◌∙◌, List, ◌++◌, length, ap, subst}
use Rattle.std.specs.Prelude.{codes, decimal, Ok}
use Rattle.decimal_text.specs.Lines.{line}
use Rattle.fx_base.specs.declared.Tick.{Tick}
use Rattle.claim_file.specs.Claims.{Claim, claim_of}
use Rattle.grid_report.specs.PatchBounds.{HoldLight, MayBeUnshown}
use Rattle.photo_table.specs.Table.{Table}
use Rattle.room_layout.specs.declared.room.Room.{Room}
use Rattle.scene_system.specs.Assembled.{Numbers, HasWeightsOf}
use Rattle.scene_system.specs.Scene.{patch_count}
use Rattle.lux_core.specs.Claims.{IsShownClaim, IsUnshownClaim}
use Rattle.lux_core.specs.declared.status.Status.{Status}
use Rattle.lux_core.specs.declared.status.Status.TheVariants as status

-- the scene has as many patches as the room
pub counted : (room : Room) (s : Numbers) (count : ℕ) → HasWeightsOf room s → count ≡ length s.patches → count ≡ patch_count room
counted room s count w e = e ∙ ap (λ ps. length ps) w.patches_are

read_for : (room : Room) (bytes : List ℕ) (count : ℕ) (claim : Claim) → count ≡ patch_count room → claim_of bytes count ≡ Ok claim → claim_of bytes (patch_count room) ≡ Ok claim
read_for room bytes count claim e r = subst (λ (n : ℕ). claim_of bytes n ≡ Ok claim) e r

pub shown_claim : (tables : List Table) (room : Room) (s : Numbers) (bytes : List ℕ) (given : Status) (text : List ℕ) (lower upper : List Tick) (count : ℕ)
    → HasWeightsOf room s → count ≡ length s.patches → claim_of bytes count ≡ Ok (record { lower = lower; upper = upper }) → HoldLight tables room lower upper
    → given ≡ status.Done → text ≡ line (codes "shown " ++ decimal count) → IsShownClaim tables room bytes given text
shown_claim tables room s bytes given text lower upper count w e r holds g t =
    let n = counted room s count w e in
    record {
      status_is = g;
      text_is = subst (λ (k : ℕ). text ≡ line (codes "shown " ++ decimal k)) n t;
      claim = record { lower = lower; upper = upper };
      read = read_for room bytes count (record { lower = lower; upper = upper }) n r;
      holds = holds;
    }

pub unshown_claim : (tables : List Table) (room : Room) (s : Numbers) (bytes : List ℕ) (given : Status) (text : List ℕ) (lower upper : List Tick) (count row : ℕ)
    → HasWeightsOf room s → count ≡ length s.patches → claim_of bytes count ≡ Ok (record { lower = lower; upper = upper }) → MayBeUnshown tables room lower upper row
    → given ≡ status.NotShown → text ≡ line (codes "not shown " ++ decimal row) → IsUnshownClaim tables room bytes given text
unshown_claim tables room s bytes given text lower upper count row w e r cause g t = record {
  status_is = g;
  row = row;
  text_is = t;
  claim = record { lower = lower; upper = upper };
  read = read_for room bytes count (record { lower = lower; upper = upper }) (counted room s count w e) r;
  cause = cause;
}
