use Rattle.std.proofs.Common.{◌+◌, arith}
use Rattle.fx_base.specs.Units.{natural}
use Rattle.fx_base.proofs.Rounding.{natural-mono}
use Rattle.photo_table.specs.Grid.{table_in}
use Rattle.photo_table.proofs.Bright.{kept_bright, below_the_greatest, hull_at}
use Rattle.photo_table.proofs.grid.Grid.hull.Goals as goal

pub tick_of-requires : goal.tick_of-requires
tick_of-requires c =
    let s = c.args.self.now in
    let round = natural-mono c.args.c.lo.0 c.args.c.hi.0 c.requires.c_not_negative c.requires.c_in_order in
    let order = natural-mono c.args.g.lo.0 c.args.g.hi.0 c.requires.g_not_negative c.requires.g_in_order in
    let bright = kept_bright s.planes.items s.gammas.items s.values.items s.kept
    (c.angle-left.result + 360000000) (c.angle-right.result + 360000000) c.angle-low.result c.angle-high.result _ _
    (omega arith) (omega (arith, c.angle-left.ensures, c.angle-right.ensures)) (omega (arith, c.angle-low.ensures, c.angle-high.ensures)) c.sweep-part.ensures.rounds in
    omega (arith, bright, c.sweep-part.ensures.rounds.in_order)

pub tick_of-requires-2 : goal.tick_of-requires-2
tick_of-requires-2 c =
    let s = c.args.self.now in
    let round = natural-mono c.args.c.lo.0 c.args.c.hi.0 c.requires.c_not_negative c.requires.c_in_order in
    let order = natural-mono c.args.g.lo.0 c.args.g.hi.0 c.requires.g_not_negative c.requires.g_in_order in
    let bright = kept_bright s.planes.items s.gammas.items s.values.items s.kept
    (c.angle-left.result + 360000000) (c.angle-right.result + 360000000) c.angle-low.result c.angle-high.result _ _
    (omega arith) (omega (arith, c.angle-left.ensures, c.angle-right.ensures)) (omega (arith, c.angle-low.ensures, c.angle-high.ensures)) c.sweep-part.ensures.rounds in
    omega (arith, bright)

pub returns-clause-rounds : goal.returns-clause-rounds
returns-clause-rounds c =
    let r = rw (c.angle-left.ensures, c.angle-right.ensures, c.angle-low.ensures, c.angle-high.ensures) at c.sweep-part.ensures.rounds in
    rw (
      hull_at (table_in c.args.self.now) (natural c.args.c.lo.0) (natural c.args.c.hi.0) (natural c.args.g.lo.0) (natural c.args.g.hi.0),
      c.new.ensures.low,
      c.new.ensures.high,
      c.tick_of.ensures,
      c.tick_of-2.ensures,
    ) r

pub returns-clause-most : goal.returns-clause-most
returns-clause-most c = λ m greatest.
    let s = c.args.self.now in
    let round = natural-mono c.args.c.lo.0 c.args.c.hi.0 c.requires.c_not_negative c.requires.c_in_order in
    let order = natural-mono c.args.g.lo.0 c.args.g.hi.0 c.requires.g_not_negative c.requires.g_in_order in
    rw (c.new.ensures.high, c.tick_of-2.ensures)
    (below_the_greatest (table_in s) s.kept.is_table m
    (c.angle-left.result + 360000000) (c.angle-right.result + 360000000) c.angle-low.result c.angle-high.result _ _ greatest
    (omega arith) (omega (arith, c.angle-left.ensures, c.angle-right.ensures)) (omega (arith, c.angle-low.ensures, c.angle-high.ensures)) c.sweep-part.ensures.rounds)

pub returns-clause-bright : goal.returns-clause-bright
returns-clause-bright c =
    let s = c.args.self.now in
    let round = natural-mono c.args.c.lo.0 c.args.c.hi.0 c.requires.c_not_negative c.requires.c_in_order in
    let order = natural-mono c.args.g.lo.0 c.args.g.hi.0 c.requires.g_not_negative c.requires.g_in_order in
    rw (c.new.ensures.high, c.tick_of-2.ensures)
    (kept_bright s.planes.items s.gammas.items s.values.items s.kept
    (c.angle-left.result + 360000000) (c.angle-right.result + 360000000) c.angle-low.result c.angle-high.result _ _
    (omega arith) (omega (arith, c.angle-left.ensures, c.angle-right.ensures)) (omega (arith, c.angle-low.ensures, c.angle-high.ensures)) c.sweep-part.ensures.rounds)
