use Rattle.std.proofs.Common.{◌≡◌, arith, length}
use Rattle.fx_base.specs.Units.{millionths}
use Rattle.photo_table.specs.Table.{lower, upper}
use Rattle.photo_table.specs.Grid.{table_in}
use Rattle.photo_table.proofs.Corner.{dark_rounds}
use Rattle.photo_table.proofs.Lists.{gammas_rise, count_is}
use Rattle.photo_table.proofs.Tables.{end_below, end_above, millionths_lt}
use Rattle.photo_table.proofs.grid.Grid.at.Goals as goal
use Rattle.photo_table.proofs.grid.Grid.at.Goals.{then-y-gamma_at-via-then-y-gamma_at, then-y-gamma_at-via-else-y-gamma_at+then-gamma_at-y}

pub returns-then-y-gamma_at : goal.returns-then-y-gamma_at
returns-then-y-gamma_at c =
    let t = table_in c.args.self.now in
    let x = millionths c.args.x in
    let y = millionths c.args.y in
    record {
      rounds = elim c.then-y-gamma_at.branch [
        | then-y-gamma_at-via-then-y-gamma_at w ↦
            let h = millionths_lt c.args.y _ (rw c.gamma_at.ensures.at at w.if-y-gamma_at.true) in
            dark_rounds _ _ (end_below lower t x y h) (end_below upper t x y h)
        | then-y-gamma_at-via-else-y-gamma_at+then-gamma_at-y w ↦
            let count : c.len-last.result ≡ length t.gammas =
            let e = count_is c.args.self.now.gammas.items in omega (arith, c.len-last.ensures, c.args.self.now.gammas.ok.0) in
            let h = millionths_lt _ c.args.y (rw (w.gamma_at-else-y-gamma_at.ensures.at, count) at w.if-gamma_at-y.true) in
            dark_rounds _ _ (end_above lower t x y h) (end_above upper t x y h)
      ];
    }

pub count_up_to-count-requires-clause-rising : goal.count_up_to-count-requires-clause-rising
count_up_to-count-requires-clause-rising c =
    let s = c.args.self.now in
    rw c.deref.ensures.value (gammas_rise s.planes.items s.gammas.items s.values.items s.kept)
