-- Nothing follows the last item.
use Rattle.std.proofs.Common.{sym, ◌∙◌, arith}
use Rattle.std.proofs.lemmas.Bool.Decides.{nat_tests}
use Rattle.lm63_read.specs.Items.{items_of}
use Rattle.lm63_read.proofs.Places.{none_behind}
use Rattle.lm63_read.proofs.table.end_in.Goals as goal

pub returns-in-None : goal.returns-in-None
returns-in-None c =
    let h = c.requires.at in
    let few = none_behind (items_of c.args.bytes.now) c.args.cursor.now.count (sym h.at.rest ∙ c.in-None.ensures) in
    let k = h.count in
    grind (arith, nat_tests)
