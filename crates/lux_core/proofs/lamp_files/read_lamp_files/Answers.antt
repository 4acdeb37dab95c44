use Rattle.std.proofs.Common.{◌∙◌}
use Rattle.std.proofs.lemmas.Result.{err_from_is_err_and}
use Rattle.lux_core.proofs.LampLists.{one_more_found, one_halted}
use Rattle.lux_core.proofs.lamp_files.read_lamp_files.Goals as goal

pub returns-in_err-table-clause-unread : goal.returns-in_err-table-clause-unread
returns-in_err-table-clause-unread g c =
    let p = err_from_is_err_and c.from_residual.result c.from_residual.ensures.1 in
    let l = c.loop-index in
    rw (p.1, p.2) (one_halted (g.S.Shelf.files c.args.shelf.now) (g.S.Shelf.files l.shelf) c.args.files.now _ _ l.index _ (g.S.Shelf.absences l.shelf) _ _ (g.S.Shelf.faults l.shelf) _ _ l.tables.items
    c.in_err-table.field-0.0 c.index-files-index.result l.invariant.read l.invariant.same_files l.invariant.no_absence l.invariant.no_fault c.loop-index-test.true c.index-files-index.is c.in_err-table.ensures.unread)

pub loop-index-preserved : goal.loop-index-preserved
loop-index-preserved g c =
    let i = c.loop-index.invariant in
    let e = c.in_ok-table.ensures in
    record {
      same_files = c.read_lamp_file.ensures.files ∙ i.same_files;
      read = rw (c.in_ok-push.ensures.items) (one_more_found (g.S.Shelf.files c.args.shelf.now) (g.S.Shelf.files c.loop-index.shelf) c.args.files.now _ _ _ c.loop-index.index c.loop-index.tables.items c.in_ok-table.table
          c.index-files-index.result i.read i.same_files c.loop-index-test.true c.index-files-index.is e.read);
      no_fault = c.in_ok-table.ensures.stood.1 ∙ i.no_fault;
      no_absence = c.in_ok-table.ensures.stood.0 ∙ i.no_absence;
    }
