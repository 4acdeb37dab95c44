use Rattle.std.proofs.Common.{◌≡◌, arith, length, refl}
use Rattle.photo_table.proofs.Lists.{value_read, value_within}
use Rattle.photo_table.proofs.grid.Grid.value_at.Goals as goal

pub returns-clause-low : goal.returns-clause-low
returns-clause-low c =
    let s = c.args.self.now in
    let n : c.len.result ≡ length s.planes.items = omega (arith, c.len.ensures, s.planes.ok.0) in
    let m : c.len-2.result ≡ length s.gammas.items = omega (arith, c.len-2.ensures, s.gammas.ok.0) in
    rw (
      value_read s.planes.items s.gammas.items s.values.items c.args.i c.args.j c.len.result c.len-2.result c.index.result.now n m
          (value_within s.planes.items s.gammas.items s.values.items s.kept c.args.i c.args.j c.len.result c.len-2.result n m (omega (arith, c.requires))) c.index.ensures,
      c.part_of.ensures.low,
    ) refl

pub returns-clause-high : goal.returns-clause-high
returns-clause-high c =
    let s = c.args.self.now in
    let n : c.len.result ≡ length s.planes.items = omega (arith, c.len.ensures, s.planes.ok.0) in
    let m : c.len-2.result ≡ length s.gammas.items = omega (arith, c.len-2.ensures, s.gammas.ok.0) in
    rw (
      value_read s.planes.items s.gammas.items s.values.items c.args.i c.args.j c.len.result c.len-2.result c.index.result.now n m
          (value_within s.planes.items s.gammas.items s.values.items s.kept c.args.i c.args.j c.len.result c.len-2.result n m (omega (arith, c.requires))) c.index.ensures,
      c.part_of.ensures.high,
    ) refl
