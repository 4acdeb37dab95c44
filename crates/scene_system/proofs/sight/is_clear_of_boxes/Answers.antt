-- The boxes near the way have been asked, and no other is met.
use Rattle.sight_line.specs.Sight.{is_clear}
use Rattle.sight_index.proofs.Agreed.{clear_between}
use Rattle.scene_system.proofs.sight.is_clear_of_boxes.Goals as goal

pub returns : goal.returns
unfolding is_clear
returns c =
    let room = c.args.room.now in
    clear_between room.size room.blocks c.args.index.now c.args.from.now c.args.to.now _ c.blocked_between.result c.is_none.result
    c.requires.room.boxes c.requires.from c.requires.to (rw c.as_slice.ensures at c.new-probe.ensures.truths) c.blocked_between.ensures.answer c.is_none.ensures
