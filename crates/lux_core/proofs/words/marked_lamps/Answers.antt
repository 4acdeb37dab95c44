use Rattle.std.proofs.Common.{ℕ, map, ap, arith, sym, ◌∙◌, ◌++◌, [], ◌∷◌}
use Rattle.std.specs.Prelude.{string_bytes}
use Rattle.std.proofs.lemmas.List.{length-map}
use Rattle.lux_core.proofs.Marks.{all_marked, none_marked, one_marked, there, word_there}
use Rattle.lux_core.proofs.words.marked_lamps.Goals as goal

pub loop-k-init : goal.loop-k-init
loop-k-init c = none_marked (map string_bytes c.args.words.now) c.new-lamps.result.items c.new-lamps.ensures.items

pub loop-k-preserved : goal.loop-k-preserved
loop-k-preserved c =
    let given = c.args.words.now in
    let k = c.loop-k.k in
    let end = c.min-k-end.ensures in
    let below = c.loop-k-test.true in
    let word = word_there string_bytes given k c.index-words-k.result c.as_str.result.now (omega (arith, end, below)) c.index-words-k.is c.as_str.ensures.value in
    one_marked (map string_bytes given) k c.loop-k.lamps.items c.push.new.self.items c.as_str.result.now (there string_bytes given k (omega (arith, end, below))) (omega (arith, end, below))
    c.loop-k.invariant (sym word) (c.in_ok-push.ensures.items ∙ ap (λ (n : ℕ). c.loop-k.lamps.items ++ n ∷ []) c.lamp_number.ensures)

pub returns-clause-lamps : goal.returns-clause-lamps
returns-clause-lamps c =
    let size = length-map c.args.words.now string_bytes in
    let end = c.min-k-end.ensures in
    let past = c.loop-k-test.false in
    all_marked (map string_bytes c.args.words.now) c.loop-k.k c.loop-k.lamps.items (omega (arith, size, end, past)) c.loop-k.invariant

pub returns-clause-few : goal.returns-clause-few
returns-clause-few c = let few = c.loop-k.invariant.few in let to = c.loop-k.invariant.to in omega (arith, few, to)
