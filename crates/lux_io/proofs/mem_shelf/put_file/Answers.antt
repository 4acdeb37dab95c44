use Rattle.std.proofs.Common.{List, map, refl, subst, sym}
use Rattle.lux_io.specs.declared.mem_shelf.Stored.{Stored}
use Rattle.lux_io.specs.Files.{Puts}
use Rattle.lux_io.specs.MemShelf.{named}
use Rattle.lux_io.proofs.Named.{puts_after, puts_over}
use Rattle.lux_io.proofs.mem_shelf.put_file.Goals as goal

-- in the place that the name has
pub returns-in-Some-clause-put : goal.returns-in-Some-clause-put
returns-in-Some-clause-put c =
    puts_over c.args.files.now.items c.in-Some.place c.args.name.now c.args.bytes.now c.index_mut.result.now _
    (cc (c.in-Some.ensures, c.deref.ensures.value)) c.index_mut.ensures.value refl c.in_ok-bytes.ensures.items

-- after all others
pub returns-in_ok-push-in-None-clause-put : goal.returns-in_ok-push-in-None-clause-put
returns-in_ok-push-in-None-clause-put c =
    let P : List Stored → Type 0 = λ files. Puts (map named c.args.files.now.items) (map named files) c.args.name.now c.args.bytes.now in
    subst P (sym c.in_ok-push-in-None.ensures.items)
    (puts_after c.args.files.now.items c.args.name.now c.args.bytes.now _
    (cc (c.in-None.ensures, c.deref.ensures.value)) c.in_ok-name-in-None.ensures.ok c.in_ok-bytes.ensures.items)
