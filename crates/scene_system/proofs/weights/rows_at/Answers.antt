-- What a fill left are rows of at most 2,048 weights.
use Rattle.std.proofs.Common.{◌≤◌, ◌≡◌, length, map, vec_items, ap, arith}
use Rattle.std.proofs.lemmas.List.{with_items_is}
use Rattle.scene_system.specs.Receivers.{faces_lit, places_lit}
use Rattle.scene_system.specs.Scene.{patch_count}
use Rattle.scene_system.proofs.RowLists.{all_rows}
use Rattle.scene_system.proofs.weights.rows_at.Goals as goal

pub rows_of-requires-clause-rows : goal.rows_of-requires-clause-rows
rows_of-requires-clause-rows g c =
    let lit = c.args.receivers.now in
    let count : length c.args.sources.now.patches.now ≡ patch_count c.args.sources.now.room.now = ap length c.requires.sources.each_patch.are in
    let few : patch_count c.args.sources.now.room.now ≤ 2048 = let most = c.requires.sources.each_patch.few in omega (arith, count, most) in
    rw (with_items_is c.in_ok-lists.lists c.fill_lists.new.lists (omega arith))
    (all_rows c.args.sources.now.room.now (places_lit lit) (faces_lit lit) (length lit) (map vec_items c.fill_lists.new.lists) few c.fill_lists.ensures)
