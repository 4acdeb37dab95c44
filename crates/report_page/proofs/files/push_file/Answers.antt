-- One piece after the other.
use Rattle.plan_drawing.proofs.Growth.{after}
use Rattle.report_page.specs.Files.{row_of_file}
use Rattle.report_page.proofs.files.push_file.Goals as goal

pub returns : goal.returns
unfolding row_of_file
returns c = after _ _ _ _ _ (after _ _ _ _ _ (c.in_ok-push_fixed.ensures) (c.in_ok-push_escaped.ensures)) (c.in_ok-push_cells.ensures)
