-- The next line, and what is left.
use Rattle.std.proofs.Common.{arith, ◌∙◌, ap, sym, refl, drop}
use Rattle.std.proofs.lemmas.List.{length-drop}
use Rattle.eulumdat_read.specs.declared.line.Cursor.{Cursor}
use Rattle.eulumdat_read.proofs.Splits.{line_taken, last_line, none_at_end, some_bytes}
use Rattle.eulumdat_read.proofs.line.next_line.Goals as goal
use Rattle.eulumdat_read.proofs.line.next_line.Goals.{then-n-rest, else-n-rest+else-is_empty}

pub returns-then-is_empty : goal.returns-then-is_empty
returns-then-is_empty c =
    let rest = drop c.args.cursor.now.at c.args.bytes.now in
    let n = c.length_of_line-n in
    let count = rw c.behind-rest.ensures at n.ensures.count in
    let line = rw c.behind-rest.ensures at c.without_return-line.ensures in
    let all = rw c.behind-rest.ensures at c.if-n-rest.false in
    let within = rw c.behind-rest.ensures at n.ensures.within in
    (record { nothing = none_at_end rest n.result c.without_return-line.result.now (sym count) (omega (arith, all, within)) line (sym c.is_empty.ensures ∙ c.if-is_empty.true) }, refl)

pub returns : goal.returns
returns c =
    let at = c.args.cursor.now.at in
    let bytes = c.args.bytes.now in
    let n = c.length_of_line-n in
    let count = rw c.behind-rest.ensures at n.ensures.count in
    let line = rw c.behind-rest.ensures at c.without_return-line.ensures in
    let within = rw c.behind-rest.ensures at n.ensures.within in
    let all = length-drop at bytes in
    let few = c.requires.at.within in
    elim c.if-n-rest.branch [
      | then-n-rest w ↦
          let p = rw c.behind-rest.ensures at w.if-n-rest.true in
          let e = ap (λ (z : Cursor). z.at) w.cursor-is in
          let f = ap (λ (z : Cursor). z.line) w.cursor-is in
          record {
            first = line_taken bytes at n.result c.if-n-rest.cursor.at c.without_return-line.result.now (sym count) p line e;
            count = omega (arith, f);
            further = omega (arith, e);
            within = omega (arith, e, p, all);
          }
      | else-n-rest+else-is_empty w ↦
          let p = rw c.behind-rest.ensures at w.if-n-rest.false in
          let e = ap (λ (z : Cursor). z.at) w.cursor-is in
          let f = ap (λ (z : Cursor). z.line) w.cursor-is in
          let some = sym w.is_empty.ensures ∙ w.if-is_empty.false in
          record {
            first = last_line bytes at n.result c.if-n-rest.cursor.at c.without_return-line.result.now (sym count) (omega (arith, p, within)) line e few some;
            count = omega (arith, f);
            further = omega (arith, e, some_bytes (drop at bytes) n.result c.without_return-line.result.now line some);
            within = omega (arith, e, within, all);
          }
    ]
