-- The list that is taken is the next one, and a row as it was required to be.
use Rattle.std.proofs.Common.{List, [], length, map, get_or, vec_items, arith, ap, sym, subst, ◌∙◌}
use Rattle.std.proofs.lemmas.List.{get_or-map, length-map}
use Rattle.std.proofs.lemmas.List.Elements.{All-get_or}
use Rattle.std.proofs.lemmas.Iterator.Adapters.{YieldsList-from_vec}
use Rattle.std.proofs.lemmas.Iterator.Consumers.{YieldsList-turn}
use Rattle.fx_base.specs.declared.Weight.{Weight}
use Rattle.interval_system.specs.System.{IsRow}
use Rattle.scene_system.proofs.lists.rows_of.Goals as goal

pub from_weights-requires : goal.from_weights-requires
from_weights-requires c =
    let all = c.args.lists.items in
    let i = length c.loop-list.yielded in
    let turn = YieldsList-turn (YieldsList-from_vec all (cc) (cc)) c.loop-list.yielded c.loop-list.list-iterator c.loop-list.yielded_by _ c.next.new.self c.in-Some.list c.in-Some.is c.next.ensures.steps in
    let row : IsRow (get_or (map vec_items all) i []) = All-get_or IsRow (map vec_items all) i [] (let n = length-map all vec_items in let l = turn.0 in omega (arith, n, l)) c.requires.rows in
    let P : List Weight → Type 0 = λ weights. IsRow weights in
    subst P (get_or-map vec_items all i c.in-Some.list [] (turn.0) ∙ ap vec_items (sym (turn.1))) row
