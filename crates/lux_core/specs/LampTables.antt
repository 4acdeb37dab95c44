-- What the program has of the files of a room's lamps.
use Rattle.std.specs.Prelude.{ℕ, ◌≡◌, List, length, Option, IfSome}
use Rattle.photo_table.specs.Table.{Table}
use Rattle.room_layout.specs.declared.room.FileUse.{FileUse}
use Rattle.scene_system.specs.Tables.{AreTablesOf}
use Rattle.lux_core.specs.LampFiles.{LampFile, WereRead, last_read, tables_of}
use Rattle.lux_core.specs.declared.reply.Halt.{Halt}
use Rattle.lux_core.specs.declared.reply.Halt.TheVariants as halt
use Rattle.lux_core.specs.declared.status.Status.{Status}

-- the tables of the first `count` files, read from a shelf that had taken so many bytes of the file before them, and has taken so many
-- of the last of them
pub record HasRead (told : Option (List (List ℕ × List ℕ))) (files : List FileUse) (taken_before taken_now count : ℕ) (tables : List Table) : Type 0 where
  pub reads : List LampFile
  pub size : length reads ≡ count
  pub read : WereRead told files reads
  pub are : AreTablesOf tables (tables_of reads)
  pub taken : (before : Option (List ℕ)) → IfSome before (λ bytes. taken_before ≡ length bytes) → IfSome (last_read before reads) (λ bytes. taken_now ≡ length bytes)

-- this is said of a file that stands in the way; want of memory says nothing
abbrev pub Says : Halt → (Status → List ℕ → Type 0) → Type 0
Says (halt.Said reply) P = P reply.status reply.text.items
Says halt.Memory P = Unit {0}
