use Rattle.sight_line.proofs.Planes.{below_plane}
use Rattle.sight_line.proofs.clip.high_side.Goals as goal

pub returns : goal.returns
returns c =
    rw (c.saturating_sub.ensures, c.saturating_sub-2.ensures, c.saturating_sub-3.ensures, c.saturating_sub-4.ensures)
    (λ r s. below_plane r s c.args.from c.args.to c.args.plane)
