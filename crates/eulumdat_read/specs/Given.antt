-- What a reader gives of a file.
use Rattle.std.specs.Prelude.{◌≡◌, Result, Ok}
use Rattle.photo_table.specs.Exact.{IsRoundedOf}
use Rattle.photo_table.specs.Table.{Table}
use Rattle.eulumdat_read.specs.Ldt.{LdtFile, table_of_file}
use Rattle.eulumdat_read.specs.declared.fault.LdtFault.{LdtFault}

-- the lines say a file, and the table is its exact one rounded down and up to ticks
pub record GivesTable (said : Result LdtFile LdtFault) (t : Table) : Type 0 where
  pub file : LdtFile
  pub is : said ≡ Ok file
  pub table : IsRoundedOf t (table_of_file file)
