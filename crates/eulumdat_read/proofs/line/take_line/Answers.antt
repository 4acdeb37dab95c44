-- The line that was taken, or the first that is missing.
use Rattle.std.proofs.Common.{arith, ap}
use Rattle.eulumdat_read.specs.declared.line.Cursor.{Cursor}
use Rattle.eulumdat_read.proofs.Cursors.{taken, none_left}
use Rattle.eulumdat_read.proofs.line.take_line.Goals as goal

pub overflow_add-result : goal.overflow_add-result
overflow_add-result c =
    let e = ap (λ (z : Cursor). z.line) c.in-None.ensures.1 in
    let at = c.requires.at in
    omega (arith, e, at.few, at.within)

pub returns-in-Some : goal.returns-in-Some
returns-in-Some c = taken c.args.bytes.now c.args.cursor.now c.next_line.new.cursor c.in-Some.line.now c.requires.at c.in-Some.ensures

pub returns-in-None : goal.returns-in-None
returns-in-None c = none_left c.args.bytes.now c.args.cursor.now c.next_line.new.cursor c.requires.at c.in-None.ensures.0 c.in-None.ensures.1
