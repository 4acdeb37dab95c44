-- The item, or the one that is missing.
use Rattle.std.proofs.Common.{◌≡◌, ◌∙◌, drop, length, sym, arith}
use Rattle.lm63_read.specs.Items.{items_of}
use Rattle.lm63_read.proofs.Places.{stands, item_there, none_behind, item_missing}
use Rattle.lm63_read.proofs.items.take_item.Goals as goal

pub returns-in-Some-clause-item : goal.returns-in-Some-clause-item
returns-in-Some-clause-item c =
    let items = items_of c.args.bytes.now in
    let n = c.args.cursor.now.count in
    let others = items_of (drop c.next_item.new.cursor.at c.args.bytes.now) in
    item_there items n c.in-Some.item.now others (stands items n c.in-Some.item.now others (sym c.requires.at.rest ∙ c.in-Some.ensures.first))

pub returns-in-Some-clause-after : goal.returns-in-Some-clause-after
returns-in-Some-clause-after c =
    let items = items_of c.args.bytes.now in
    let n = c.args.cursor.now.count in
    let others = items_of (drop c.next_item.new.cursor.at c.args.bytes.now) in
    let h = stands items n c.in-Some.item.now others (sym c.requires.at.rest ∙ c.in-Some.ensures.first) in
    let t = c.in-Some.ensures in
    let w = h.within in
    record {
      at = record { rest = rw t.count (sym h.behind); within = t.within; taken = omega (arith, t.count) };
      count = t.count;
    }

pub returns-in-None-clause-item : goal.returns-in-None-clause-item
returns-in-None-clause-item c =
    let items = items_of c.args.bytes.now in
    let n = c.args.cursor.now.count in
    let few = none_behind items n (sym c.requires.at.rest ∙ c.in-None.ensures) in
    let all : length items ≡ n = omega (arith, few, c.requires.at.taken) in
    λ k h. item_missing items n k all h
