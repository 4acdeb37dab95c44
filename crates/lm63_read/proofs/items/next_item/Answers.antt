-- What follows the separators.
use Rattle.std.proofs.Common.{◌+◌, length, arith, ap, refl, ◌∙◌}
use Rattle.std.specs.List.{prefix_len}
use Rattle.std.proofs.lemmas.List.{length-drop}
use Rattle.lm63_read.specs.Items.{is_of_item, is_separator}
use Rattle.lm63_read.proofs.Cut.{next_of, end_of}
use Rattle.lm63_read.proofs.items.next_item.Goals as goal

pub returns-then-len-eq0 : goal.returns-then-len-eq0
returns-then-len-eq0 c =
    let s = c.separator_count.ensures.count ∙ ap (prefix_len is_separator) c.behind.ensures in
    let n = c.item_len-len.ensures.count ∙ ap (prefix_len is_of_item) c.behind-rest.ensures in
    end_of c.args.bytes.now c.args.cursor.now.at c.separator_count.result s (omega (arith, n, c.if-len-eq0.true))

pub returns : goal.returns
returns c =
    let s = c.separator_count.ensures.count ∙ ap (prefix_len is_separator) c.behind.ensures in
    let n = c.item_len-len.ensures.count ∙ ap (prefix_len is_of_item) c.behind-rest.ensures in
    record {
      first = rw c.behind-rest.ensures (next_of c.args.bytes.now c.args.cursor.now.at c.separator_count.result c.item_len-len.result s n (omega arith));
      count = refl;
      within = omega (
        arith,
        c.item_len-len.ensures.within,
        ap length c.behind-rest.ensures,
        length-drop (c.args.cursor.now.at + c.separator_count.result) c.args.bytes.now,
        c.separator_count.ensures.within,
        ap length c.behind.ensures,
        length-drop c.args.cursor.now.at c.args.bytes.now,
        c.requires.at.within,
      );
    }
