use Rattle.lux_core.proofs.LampLists.{was_read}
use Rattle.lux_core.proofs.lamp_files.read_lamp_file.Goals as goal

pub returns-in_ok-table-in-Ok-clause-read : goal.returns-in_ok-table-in-Ok-clause-read
returns-in_ok-table-in-Ok-clause-read g c = was_read (g.S.Shelf.files c.args.shelf.now) c.args.file.now c.text.result.now c.as_slice.result.now c.in-Ok.bytes.items
    (g.S.Shelf.taken c.take_file.new.shelf) c.in_ok-table-in-Ok.table c.text.ensures c.as_slice.ensures.value c.in-Ok.ensures.told (rw (c.as_slice.ensures.len) c.in-Ok.ensures.whole) (rw (c.as_slice.ensures.len) c.in-Ok.ensures.taken)
    c.in_ok-table-in-Ok.ensures.read
