use Rattle.std.proofs.Common.{◌+◌, ◌-◌, ◌<◌, arith, length}
use Rattle.std.proofs.Math.Nat.{mul-pos}
use Rattle.photo_table.specs.Table.{plane, gamma, lower, upper}
use Rattle.photo_table.specs.Grid.{table_in}
use Rattle.photo_table.proofs.Corner.{corner_next, corner_rounds, weighed_le}
use Rattle.photo_table.proofs.Lists.{gammas_rise, count_is}
use Rattle.photo_table.proofs.Tables.{plane_rises, plane_step}
use Rattle.photo_table.proofs.grid.Grid.corner.Goals as goal

pub weighed-low-requires-clause-ahead : goal.weighed-low-requires-clause-ahead
weighed-low-requires-clause-ahead c =
    let step = plane_step (table_in c.args.self.now) c.args.self.now.kept.is_table c.args.i in
    omega (arith, step, c.plane_at-right.ensures, c.requires.left)

pub weighed-low-requires-clause-behind : goal.weighed-low-requires-clause-behind
weighed-low-requires-clause-behind c =
    let step = plane_step (table_in c.args.self.now) c.args.self.now.kept.is_table c.args.i in
    omega (arith, step, c.plane_at-left.ensures, c.requires.right)

pub weighed-high-requires-clause-ahead : goal.weighed-high-requires-clause-ahead
weighed-high-requires-clause-ahead c =
    let step = plane_step (table_in c.args.self.now) c.args.self.now.kept.is_table c.args.i in
    omega (arith, step, c.plane_at-right.ensures, c.requires.left)

pub weighed-high-requires-clause-behind : goal.weighed-high-requires-clause-behind
weighed-high-requires-clause-behind c =
    let step = plane_step (table_in c.args.self.now) c.args.self.now.kept.is_table c.args.i in
    omega (arith, step, c.plane_at-left.ensures, c.requires.right)

pub rounded-requires : goal.rounded-requires
rounded-requires c =
    let s = c.args.self.now in
    let wide = plane_rises (table_in s) s.kept.is_table c.args.i (c.args.i + 1) (omega arith) in
    let deep = gammas_rise s.planes.items s.gammas.items s.values.items s.kept c.args.j (c.args.j + 1) (omega arith) c.requires.within in
    mul-pos (omega (arith, wide, c.plane_at-left.ensures, c.plane_at-right.ensures)) (omega (arith, deep, c.gamma_at.ensures.at, c.gamma_at-2.ensures.at))

pub returns : goal.returns
returns c =
    let s = c.args.self.now in
    let t = table_in s in
    let wide = plane_rises t s.kept.is_table c.args.i (c.args.i + 1) (omega arith) in
    let deep = gammas_rise s.planes.items s.gammas.items s.values.items s.kept c.args.j (c.args.j + 1) (omega arith) c.requires.within in
    let within : c.args.j + 1 < length t.gammas = rw (count_is s.gammas.items) c.requires.within in
    record {
      rounds = corner_rounds _ _ c.weighed-low.result c.weighed-high.result (gamma t (c.args.j + 1) - gamma t c.args.j) (plane t (c.args.i + 1) - plane t c.args.i) c.rounded.result.lo c.rounded.result.hi
          (omega (arith, deep)) (omega (arith, wide))
          (rw (c.weighed-low.ensures, c.weighed-high.ensures) (weighed_le _ _ _ _ _ _ c.weighed_row-first.ensures.in_order c.weighed_row-second.ensures.in_order))
          (rw (c.weighed-low.ensures, c.plane_at-left.ensures, c.plane_at-right.ensures)
          (corner_next lower t s.kept.is_table c.args.i c.args.j (c.args.i + 1) (c.args.j + 1) c.args.x c.args.y c.weighed_row-first.result.lo c.weighed_row-second.result.lo (omega arith) (omega arith) within
          c.requires.left c.requires.right c.requires.low c.requires.high c.weighed_row-first.ensures.low c.weighed_row-second.ensures.low))
          (rw (c.weighed-high.ensures, c.plane_at-left.ensures, c.plane_at-right.ensures)
          (corner_next upper t s.kept.is_table c.args.i c.args.j (c.args.i + 1) (c.args.j + 1) c.args.x c.args.y c.weighed_row-first.result.hi c.weighed_row-second.result.hi (omega arith) (omega arith) within
          c.requires.left c.requires.right c.requires.low c.requires.high c.weighed_row-first.ensures.high c.weighed_row-second.ensures.high))
          (rw (← c.plane_at-left.ensures, ← c.plane_at-right.ensures, ← c.gamma_at.ensures.at, ← c.gamma_at-2.ensures.at) c.rounded.ensures.low)
          (rw (← c.plane_at-left.ensures, ← c.plane_at-right.ensures, ← c.gamma_at.ensures.at, ← c.gamma_at-2.ensures.at) c.rounded.ensures.high);
    }
