-- None of the boxes is met where no first one is.
use Rattle.sight_line.specs.Sight.{is_clear}
use Rattle.escape_route.proofs.LampPoints.{clear_if}
use Rattle.escape_route.proofs.light.is_clear.Goals as goal

pub returns : goal.returns
unfolding is_clear
returns c = clear_if c.is_none.result _ _ c.is_none.ensures (rw c.as_slice.ensures at c.blocked_by.ensures.test)
