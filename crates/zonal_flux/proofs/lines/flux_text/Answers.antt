-- The text that is made is that of the lines, up to the brackets of its parts.
use Rattle.std.proofs.Common.{append_assoc}
use Rattle.zonal_flux.proofs.lines.flux_text.Goals as goal

pub returns : goal.returns
returns c =
    record { text = simp (c.in_ok-text.ensures.ok, c.outward-down.ensures.low, c.outward-down.ensures.high, c.outward-up.ensures.low, c.outward-up.ensures.high, c.outward-total.ensures.low, c.outward-total.ensures.high, c.judge-verdict.ensures.verdict, append_assoc) }
