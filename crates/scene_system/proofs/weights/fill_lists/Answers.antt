-- What the job makes of each list is the row of its receiver.
use Rattle.std.proofs.Common.{length, arith}
use Rattle.scene_system.specs.Receivers.{faces_lit, places_lit}
use Rattle.scene_system.proofs.Lit.{rows_from_lists}
use Rattle.scene_system.proofs.weights.fill_lists.Goals as goal

pub returns : goal.returns
returns g c =
    let lit = c.args.receivers.now in
    let size = c.requires.size in
    rows_from_lists c.args.sources.now.room.now (places_lit lit) (faces_lit lit) (length lit) c.fill_rows.new.rows (omega arith) (λ k d l. c.fill_rows.ensures.makes k d (omega (arith, size, l)))
