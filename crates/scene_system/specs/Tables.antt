-- The tables of a room's files: the exact ones, and those that the program keeps.
use Rattle.std.specs.Prelude.{ℕ, ◌*◌, ◌<◌, ◌≤◌, ◌≡◌, List, All, length, slice_index_or}
use Rattle.fx_base.specs.Units.{ticks}
use Rattle.room_layout.specs.declared.room.Lamp.{Lamp}
use Rattle.room_layout.specs.declared.room.Room.{Room}
use Rattle.room_layout.specs.declared.room.Shine.TheVariants.{Even, File}
use Rattle.photo_table.specs.Exact.{IsExact, IsIntensityTable}
use Rattle.photo_table.specs.Kept.{IsGreatest}
use Rattle.photo_table.specs.Table.{Table, IsTable, upper}
use Rattle.direct_light.specs.Shares.{table_at}
pub use Rattle.direct_light.specs.Tables.{AreTablesOf}
use Rattle.scene_system.specs.Causes.{greatest_ticks, greatest_total}

-- one table for each file of the room, with exact numbers
pub record AreExactTables (room : Room) (tables : List Table) : Type 0 where
  pub count : length tables ≡ length room.files
  pub is_table : (k : ℕ) → k < length tables → IsTable (table_at tables k)
  pub exact : (k : ℕ) → k < length tables → IsExact (table_at tables k)

-- a kept table is a table of intensity, whose greatest upper end has so many ticks
pub record IsKeptTable (p : Table) : Type 0 where
  pub kept : IsIntensityTable p
  pub greatest : IsGreatest upper p (ticks (greatest_ticks p))
  pub bright : greatest_ticks p ≤ greatest_total

abbrev pub AreKept : List Table → Type 0
AreKept photos = All IsKeptTable photos

-- the greatest intensity of a lamp in ticks, by those of the files
abbrev pub ticks_by : List ℕ → Lamp → ℕ
ticks_by files l = elim l.shine [ Even candela ↦ candela * 68719476736 | File k ↦ slice_index_or files k 0 ]
