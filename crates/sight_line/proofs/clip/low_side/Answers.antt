use Rattle.sight_line.proofs.Planes.{above_plane}
use Rattle.sight_line.proofs.clip.low_side.Goals as goal

pub returns : goal.returns
returns c =
    rw (c.saturating_sub.ensures, c.saturating_sub-2.ensures, c.saturating_sub-3.ensures, c.saturating_sub-4.ensures)
    (λ r s. above_plane r s c.args.from c.args.to c.args.plane)
