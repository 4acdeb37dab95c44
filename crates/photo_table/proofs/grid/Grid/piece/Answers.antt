use Rattle.std.proofs.Common.{◌≡◌, arith, length, sym, ◌∙◌}
use Rattle.photo_table.specs.Grid.{table_in}
use Rattle.photo_table.proofs.Lists.{piece_low, piece_high, count_is}
use Rattle.photo_table.proofs.grid.Grid.piece.Goals as goal

pub returns-clause-low : goal.returns-clause-low
returns-clause-low c =
    let s = c.args.self.now in
    let ps = s.planes.items in
    let count : c.len.result ≡ length ps = omega (arith, c.len.ensures, s.planes.ok.0) in
    let few = rw c.deref.ensures.value at c.count_up_to.ensures.few in
    piece_low (table_in s) s.kept.is_table c.args.x c.len.result c.count_up_to.result (count ∙ sym (count_is ps)) c.requires.turn (omega arith)
    (λ i p. s.kept.planes_below i (omega arith)) (rw c.deref.ensures.value at c.count_up_to.ensures.up_to)

pub returns-clause-high : goal.returns-clause-high
returns-clause-high c =
    let s = c.args.self.now in
    let ps = s.planes.items in
    let count : c.len.result ≡ length ps = omega (arith, c.len.ensures, s.planes.ok.0) in
    let few = rw c.deref.ensures.value at c.count_up_to.ensures.few in
    let above = rw c.deref.ensures.value at c.count_up_to.ensures.above in
    piece_high (table_in s) s.kept.is_table c.args.x c.len.result c.count_up_to.result (count ∙ sym (count_is ps)) c.requires.turn (omega arith)
    (λ i p q. above i p (omega arith))
