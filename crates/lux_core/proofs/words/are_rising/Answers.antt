use Rattle.std.proofs.Common.{map, length, ap, arith, sym, ◌∙◌}
use Rattle.std.specs.Prelude.{string_bytes}
use Rattle.std.proofs.lemmas.List.{length-map}
use Rattle.lux_core.specs.Commands.{number_within}
use Rattle.lux_core.proofs.Marks.{all_rise, no_more, none_yet, one_more, there, word_there}
use Rattle.lux_core.proofs.words.are_rising.Goals as goal

pub loop-word-init : goal.loop-word-init
loop-word-init c = none_yet (map string_bytes c.args.words.now)

pub loop-word-preserved : goal.loop-word-preserved
loop-word-preserved c =
    let words = map string_bytes c.args.words.now in
    let i = c.loop-word.word-index in
    let word = word_there string_bytes c.args.words.now i c.word-item.result c.as_str.result.now c.loop-word-test.true c.word-item.is c.as_str.ensures.value in
    one_more words i c.loop-word.least c.in-Some.number _ (there string_bytes c.args.words.now i c.loop-word-test.true) c.loop-word.invariant
    (ap (number_within c.loop-word.least 255) word ∙ sym c.number_within.ensures.number ∙ c.in-Some.is) c.in-Some.ensures.within.1

pub returns-in_default : goal.returns-in_default
returns-in_default c =
    let words = map string_bytes c.args.words.now in
    let i = c.loop-word.word-index in
    let word = word_there string_bytes c.args.words.now i c.word-item.result c.as_str.result.now c.loop-word-test.true c.word-item.is c.as_str.ensures.value in
    sym (no_more words i c.loop-word.least _ (there string_bytes c.args.words.now i c.loop-word-test.true) c.loop-word.invariant
    (ap (number_within c.loop-word.least 255) word ∙ sym c.number_within.ensures.number ∙ c.in_default.is))

pub returns : goal.returns
returns c =
    let size = length-map c.args.words.now string_bytes in
    let past = c.loop-word-test.false in
    sym (all_rise (map string_bytes c.args.words.now) c.loop-word.word-index c.loop-word.least (omega (arith, size, past)) c.loop-word.invariant)
