-- What holds of the bounds that a scene of a room gives, and of claims on the light of the room's patches, whoever made them.
use Rattle.std.specs.Prelude.{ℕ, ◌≡◌, List, All, length}
use Rattle.fx_base.specs.Bound.{IsEnd}
use Rattle.fx_base.specs.declared.Tick.{Tick}
use Rattle.interval_system.specs.System.{NoneHeavy}
use Rattle.radiosity_solve.specs.Bounds.{IsLowerAnswer, IsUpperAnswer}
use Rattle.radiosity_solve.specs.Claim.{IsShown, IsFirstNotShown}
use Rattle.room_layout.specs.Accepted.{IsAccepted}
use Rattle.room_layout.specs.declared.room.Room.{Room}
use Rattle.photo_table.specs.Table.{Table}
use Rattle.scene_system.specs.Assembled.{Numbers, IsSceneOf, IsWellFormed}
use Rattle.scene_system.specs.Tables.{AreExactTables}
use Rattle.grid_report.specs.PatchBounds.{HoldLight, AreNearLight, MayBeUnshown}

-- the answers of a scene without a heavy row hold the light of the room's patches, and are near the loose light
abbrev pub BoundsHoldLight : Type 0
BoundsHoldLight = (tables : List Table) (room : Room) (s : Numbers) (lower upper : List Tick) → IsAccepted room → AreExactTables room tables → IsWellFormed s → IsSceneOf tables room s
    → NoneHeavy s.system.rows → IsLowerAnswer s.system lower → IsUpperAnswer s.system upper
    → HoldLight tables room lower upper × AreNearLight tables room lower upper

-- a claim that such a scene shows holds the light of the room's patches
abbrev pub ShownHoldsLight : Type 0
ShownHoldsLight = (tables : List Table) (room : Room) (s : Numbers) (lower upper : List Tick) → IsAccepted room → AreExactTables room tables → IsWellFormed s → IsSceneOf tables room s
    → NoneHeavy s.system.rows → length lower ≡ length s.system.rows → length upper ≡ length s.system.rows → All IsEnd lower → All IsEnd upper
    → IsShown s.system lower upper → HoldLight tables room lower upper

-- the first row at which a claim isn't shown has its cause in the room: there the claim has little margin by the loose ends
abbrev pub UnshownHasCause : Type 0
UnshownHasCause = (tables : List Table) (room : Room) (s : Numbers) (lower upper : List Tick) (row : ℕ) → IsAccepted room → AreExactTables room tables → IsWellFormed s → IsSceneOf tables room s
    → NoneHeavy s.system.rows → length lower ≡ length s.system.rows → length upper ≡ length s.system.rows → All IsEnd lower → All IsEnd upper
    → IsFirstNotShown s.system lower upper row → MayBeUnshown tables room lower upper row
