use Rattle.lux_io.proofs.Named.{bytes_of_absent, bytes_of_place}
use Rattle.lux_io.proofs.mem_shelf.MemShelfShelf.open.Goals as goal

-- the place that was found has the bytes under the name
pub returns-in-Some-clause-told : goal.returns-in-Some-clause-told
returns-in-Some-clause-told c = bytes_of_place c.args.name.now c.args.self.now.files.items c.in-Some.place (cc (c.in-Some.ensures, c.deref-2.ensures.value))

-- where no place was found the name has no bytes
pub returns-in-None-clause-absent : goal.returns-in-None-clause-absent
returns-in-None-clause-absent c _ = bytes_of_absent c.args.name.now c.args.self.now.files.items (cc (c.in-None.ensures, c.deref-2.ensures.value))
