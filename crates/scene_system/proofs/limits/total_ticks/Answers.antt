use Rattle.std.proofs.Common.{◌∙◌}
use Rattle.scene_system.proofs.Kept.{total_by_files}
use Rattle.scene_system.proofs.limits.total_ticks.Goals as goal

pub returns-clause-total : goal.returns-clause-total
returns-clause-total c = (rw (c.as_slice.ensures.value, c.in_ok-files.ensures.ticks) at c.total_by-total.ensures) ∙ total_by_files c.args.photos.now c.args.room.now
