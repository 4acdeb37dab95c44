use Rattle.std.proofs.Common.{◌≡◌}
use Rattle.lux_core.specs.LampTables.{HasRead}
use Rattle.lux_core.proofs.lamp_files.read_lamp_files.Given as goal

abbrev pub invariant-loop-index : goal.invariant-loop-index
invariant-loop-index g l = record {
  same_files : g.S.Shelf.files l.shelf ≡ g.S.Shelf.files l.fn.shelf;
  read : HasRead (g.S.Shelf.files l.fn.shelf) l.files (g.S.Shelf.taken l.fn.shelf) (g.S.Shelf.taken l.shelf) l.index l.tables.items;
  no_fault : g.S.Shelf.faults l.shelf ≡ g.S.Shelf.faults l.fn.shelf;
  no_absence : g.S.Shelf.absences l.shelf ≡ g.S.Shelf.absences l.fn.shelf;
}
